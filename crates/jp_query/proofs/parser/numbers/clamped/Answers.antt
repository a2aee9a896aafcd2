use Rattle.jp_model.specs.Characters.{digits_value}
use Rattle.jp_query.proofs.Digits.{capped, below, above}
use Rattle.jp_query.proofs.parser.numbers.clamped.Goals as goal
use Rattle.jp_query.proofs.parser.numbers.clamped.Goals.{then-next-lt-ABOVE_EXACT, else-next-lt-ABOVE_EXACT}

pub loop-c-preserved : goal.loop-c-preserved
loop-c-preserved c = elim c.if-next-lt-ABOVE_EXACT.branch [
  | then-next-lt-ABOVE_EXACT w ↦ rw (w.value-is, c.saturating_sub.ensures) (below c.args.digits.now c.loop-c.c-index c.loop-c.value c.c-item.result (capped (digits_value c.args.digits.now)) c.loop-c-test.true c.c-item.is c.loop-c.invariant.0 (rw c.saturating_sub.ensures at w.if-next-lt-ABOVE_EXACT.true))
  | else-next-lt-ABOVE_EXACT w ↦ rw w.value-is (above c.args.digits.now c.loop-c.c-index c.loop-c.value c.c-item.result (capped (digits_value c.args.digits.now)) c.loop-c-test.true c.c-item.is c.loop-c.invariant.0 (rw c.saturating_sub.ensures at w.if-next-lt-ABOVE_EXACT.false))
]
