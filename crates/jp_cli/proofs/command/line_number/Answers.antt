-- One digit more is read, or the text is no number.
use Rattle.std.proofs.Common.{◌∙◌, ◌*◌, ◌+◌, arith, subst, sym, ℕ}
use Rattle.jp_cli.proofs.LineNumbers.{IsRead, none_read, one_more, all_read, number_if_digits, value_low}
use Rattle.jp_cli.proofs.command.line_number.Goals as goal

pub loop-digit-init : goal.loop-digit-init
loop-digit-init c = none_read c.args.digits.now

pub overflow_mul-value : goal.overflow_mul-value
overflow_mul-value c =
    let few = c.if-digits-gt-MOST_NUMBER_DIGITS.false in
    let low = value_low c.loop-digit.digit-index c.loop-digit.value c.loop-digit.invariant.low (omega (arith, few, c.loop-digit-test.true)) in
    omega (arith, low)

pub overflow_add-value : goal.overflow_add-value
overflow_add-value c =
    let few = c.if-digits-gt-MOST_NUMBER_DIGITS.false in
    let low = value_low c.loop-digit.digit-index c.loop-digit.value c.loop-digit.invariant.low (omega (arith, few, c.loop-digit-test.true)) in
    omega (arith, low, c.from.ensures, c.if-digit-gt57.false)

pub loop-digit-preserved : goal.loop-digit-preserved
loop-digit-preserved c =
    subst (λ (d : ℕ). IsRead c.args.digits.now (c.loop-digit.digit-index + 1) (c.loop-digit.value * 10 + d)) (sym c.from.ensures)
    (one_more c.args.digits.now c.loop-digit.digit-index c.loop-digit.value c.loop-digit-test.true c.loop-digit.invariant c.if-digit-lt48.false c.if-digit-gt57.false)

pub returns : goal.returns
returns c =
    let read = all_read c.args.digits.now c.loop-digit.digit-index c.loop-digit.value (omega (arith, c.loop-digit-test.false)) c.loop-digit.invariant in
    (number_if_digits c.args.digits.now (omega (arith, c.in-len1-up.len_at_least)) c.if-first-eq48.false c.if-digits-gt-MOST_NUMBER_DIGITS.false ∙ read.0, read.1)
