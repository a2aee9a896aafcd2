use Rattle.std.proofs.Common.{arith, ◌∙◌, sym, ap, take, ◌+◌, ◌*◌, ◌≡◌, get_or, ◌-◌}
use Rattle.std.proofs.lemmas.List.{take_all}
use Rattle.jp_model.specs.Characters.{digits_value}
use Rattle.jp_decimal.proofs.ReadDigits.{below_at, low_at, high_at, value_more, value_at}
use Rattle.jp_decimal.proofs.reading.value_of_digits.Goals as goal

pub overflow_mul-value : goal.overflow_mul-value
overflow_mul-value c = omega (arith, value_at c.args.digits.now c.loop-digit.digit-index c.requires.digits (omega arith) c.requires.short)

pub overflow_sub-value : goal.overflow_sub-value
overflow_sub-value c = low_at c.args.digits.now c.loop-digit.digit-index c.requires.digits (omega arith)

pub overflow_add-value : goal.overflow_add-value
overflow_add-value c = omega (arith, value_at c.args.digits.now c.loop-digit.digit-index c.requires.digits (omega arith) c.requires.short, high_at c.args.digits.now c.loop-digit.digit-index c.requires.digits (omega arith))

pub loop-digit-preserved : goal.loop-digit-preserved
loop-digit-preserved c =
    ap (λ v. v * 10 + (get_or c.args.digits.now c.loop-digit.digit-index 0 - 0x30)) c.loop-digit.invariant ∙ sym (value_more c.args.digits.now c.loop-digit.digit-index (omega arith))

pub returns-clause-below : goal.returns-clause-below
returns-clause-below c =
    let e : take c.loop-digit.digit-index c.args.digits.now ≡ c.args.digits.now = take_all _ _ (omega arith) in
    below_at _ _ (c.loop-digit.invariant ∙ ap digits_value e) c.requires.digits c.requires.short
