use Rattle.std.proofs.Common.{sym, arith}
use Rattle.std.proofs.lemmas.Bool.{eqb-true}
use Rattle.jp_tape.proofs.Ahead.{not_empty}
use Rattle.jp_tape.proofs.Reader.{behind_inside, told_whole}
use Rattle.jp_tape.proofs.builder.reader.Reader.until_value.Goals as goal

pub is_byte-requires : goal.is_byte-requires
is_byte-requires g c =
    let some = not_empty _ c.loop-self-test.ensures in
    let size = c.loop-self.self.stack.now.ok.0 in
    behind_inside (omega (arith, some, size)) c.loop-self.invariant.behind

pub close-requires-clause-inside : goal.close-requires-clause-inside
close-requires-clause-inside g c =
    let some = not_empty _ c.loop-self-test.ensures in
    let size = c.loop-self.self.stack.now.ok.0 in
    behind_inside (omega (arith, some, size)) c.loop-self.invariant.behind

pub returns-then-at-line-clause-reached : goal.returns-then-at-line-clause-reached
returns-then-at-line-clause-reached g c =
    let none = eqb-true _ _ (sym c.loop-self-test.ensures) in
    let size = c.loop-self.self.stack.now.ok.0 in
    told_whole (omega (arith, none, size)) c.if-at-line.true c.loop-self.invariant.behind
