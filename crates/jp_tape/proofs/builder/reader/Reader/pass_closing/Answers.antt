use Rattle.std.proofs.Common.{◌+◌, List, ℕ, length, ap, sym, subst, arith, length-drop}
use Rattle.jp_tape.specs.Ahead.{IsAhead}
use Rattle.jp_tape.proofs.Ahead.{passes_structural, structural_begins}
use Rattle.jp_tape.proofs.builder.reader.Reader.pass_closing.Goals as goal

pub marks_behind-self-requires : goal.marks_behind-self-requires
marks_behind-self-requires c = (passes_structural _ _ _ c.requires.inside c.requires.structural c.requires.ahead).within

pub next_token-requires-clause-begins : goal.next_token-requires-clause-begins
next_token-requires-clause-begins c = structural_begins c.args.line.now c.args.at c.requires.structural

pub next_token-requires-clause-ahead : goal.next_token-requires-clause-ahead
next_token-requires-clause-ahead c =
    subst (λ (ms : List ℕ). IsAhead c.args.line.now (c.args.at + 1) ms) (sym c.marks_behind-self.ensures) (passes_structural _ _ _ c.requires.inside c.requires.structural c.requires.ahead).ahead

pub returns-clause-fewer : goal.returns-clause-fewer
returns-clause-fewer c =
    let some = (passes_structural _ _ _ c.requires.inside c.requires.structural c.requires.ahead).within in
    let left = ap length c.marks_behind-self.ensures in
    let count = length-drop 1 c.args.self.now.marks.now in
    omega (arith, some, left, count)
