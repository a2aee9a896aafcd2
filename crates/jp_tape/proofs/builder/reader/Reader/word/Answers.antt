use Rattle.std.proofs.Common.{arith}
use Rattle.jp_tape.specs.Machine.{Value_at}
use Rattle.jp_tape.proofs.Ahead.{passes_solid, word_solid}
use Rattle.jp_tape.proofs.Steps.{no_value_step}
use Rattle.jp_tape.proofs.Reader.{no_text}
use Rattle.jp_tape.proofs.builder.reader.Reader.word.Goals as goal

pub returns-in_default-clause-refused : goal.returns-in_default-clause-refused
returns-in_default-clause-refused g c =
    let v = c.requires.next in
    no_text c.args.line.now (Value_at v.frames v.own c.args.at) v.leads (no_value_step c.args.line.now v.frames v.own c.args.at (c.requires.none c.in_default.ensures.none))

pub pass_leaf-requires-clause-found : goal.pass_leaf-requires-clause-found
pass_leaf-requires-clause-found g c = c.requires.found c.in-Some.end c.in-Some.ensures.found.0

pub pass_leaf-requires-clause-within : goal.pass_leaf-requires-clause-within
pass_leaf-requires-clause-within g c =
    let l = c.in-Some.ensures.found.1 in
    let some = c.requires.some in
    (omega (arith, l, some), c.in-Some.ensures.found.0.within)

pub pass_leaf-requires-clause-token : goal.pass_leaf-requires-clause-token
pass_leaf-requires-clause-token g c =
    let r = c.in-Some.ensures.found.0 in
    let l = c.in-Some.ensures.found.1 in
    let some = c.requires.some in
    word_solid c.args.line.now c.args.word.now c.args.at c.in-Some.end r c.requires.plain c.args.at (omega arith) (omega (arith, l, some))

pub pass_leaf-requires-clause-passed : goal.pass_leaf-requires-clause-passed
pass_leaf-requires-clause-passed g c =
    let r = c.in-Some.ensures.found.0 in
    let w = r.within in
    let l = c.in-Some.ensures.found.1 in
    let some = c.requires.some in
    passes_solid c.args.line.now c.args.self.now.marks.now c.args.at c.in-Some.end c.requires.next.ahead (omega (arith, l, some)) w (word_solid c.args.line.now c.args.word.now c.args.at c.in-Some.end r c.requires.plain)
