use Rattle.std.proofs.Common.{arith}
use Rattle.std.proofs.lemmas.Bool.{eqb-true}
use Rattle.jp_tape.proofs.PlainNumbers.{int_read}
use Rattle.jp_tape.proofs.builder.numbers.is_int.Goals as goal

pub returns-then-line-from-eq48-clause-int : goal.returns-then-line-from-eq48-clause-int
returns-then-line-from-eq48-clause-int c one =
    let alone = eqb-true _ _ one in
    int_read c.args.line.now c.args.from c.args.end (omega (arith, alone)) c.requires.within c.requires.digits (λ zero. alone)

pub returns-clause-int : goal.returns-clause-int
returns-clause-int c one =
    let order = c.requires.order in
    int_read c.args.line.now c.args.from c.args.end (omega arith) c.requires.within c.requires.digits (λ zero. absurd (c.if-line-from-eq48.false zero))
