use Rattle.std.proofs.Common.{◌∙◌, arith, true, false}
use Rattle.std.proofs.lemmas.Int.{ints}
use Rattle.jp_model.specs.Json.Numbers.{AreDigits, AreSomeDigits}
use Rattle.jp_decimal.proofs.ReadDigits.{without_zeros_digits}
use Rattle.jp_decimal.proofs.Spelled.{digits_all, some_from_digits, not_all, no_exponent, spells_exponent, exponent_is, longer}
use Rattle.jp_decimal.proofs.reading.read_exponent.Goals as goal

pub returns-then-count-digits-clause-read : goal.returns-then-count-digits-clause-read
returns-then-count-digits-clause-read c =
    no_exponent _ _ _ _ c.in-Some.ensures.1 c.split_sign-negative.ensures.only (not_all _ c.count_digits-count.result (omega arith) c.count_digits-count.ensures.end)

pub returns-then-significant-gt-MOST_EXPONENT_DIGITS-clause-read : goal.returns-then-significant-gt-MOST_EXPONENT_DIGITS-clause-read
returns-then-significant-gt-MOST_EXPONENT_DIGITS-clause-read c =
    let a : AreDigits c.split_sign-negative.result.1.now = digits_all c.split_sign-negative.result.1.now c.count_digits-count.result (omega arith) c.count_digits-count.ensures.digits in
    let some : AreSomeDigits c.split_sign-negative.result.1.now = some_from_digits c.split_sign-negative.result.1.now (omega arith) a in
    (_, spells_exponent _ _ _ _ _ c.in-Some.ensures.1 c.split_sign-negative.ensures.found.1 some, longer _ c.split_sign-negative.result.1.now c.behind_zeros-significant.ensures c.if-significant-gt-MOST_EXPONENT_DIGITS.true)

pub value_of_digits-value-requires-clause-digits : goal.value_of_digits-value-requires-clause-digits
value_of_digits-value-requires-clause-digits c =
    let a : AreDigits c.split_sign-negative.result.1.now = digits_all c.split_sign-negative.result.1.now c.count_digits-count.result (omega arith) c.count_digits-count.ensures.digits in
    rw c.behind_zeros-significant.ensures (without_zeros_digits c.split_sign-negative.result.1.now a)

pub returns-then-negative-clause-read : goal.returns-then-negative-clause-read
returns-then-negative-clause-read c =
    let a : AreDigits c.split_sign-negative.result.1.now = digits_all c.split_sign-negative.result.1.now c.count_digits-count.result (omega arith) c.count_digits-count.ensures.digits in
    let some : AreSomeDigits c.split_sign-negative.result.1.now = some_from_digits c.split_sign-negative.result.1.now (omega arith) a in
    exponent_is _ _ _ c.behind_zeros-significant.result.now _ _ true c.value_of_digits-value.result _ c.in-Some.ensures.1 c.split_sign-negative.ensures.found.1 some
    c.behind_zeros-significant.ensures c.if-significant-gt-MOST_EXPONENT_DIGITS.false (c.split_sign-negative.ensures.found.2 ∙ c.if-negative.true) c.value_of_digits-value.ensures.value (omega (arith, ints, c.value_of_digits-value.ensures.below))

pub returns-else-negative-clause-read : goal.returns-else-negative-clause-read
returns-else-negative-clause-read c =
    let a : AreDigits c.split_sign-negative.result.1.now = digits_all c.split_sign-negative.result.1.now c.count_digits-count.result (omega arith) c.count_digits-count.ensures.digits in
    let some : AreSomeDigits c.split_sign-negative.result.1.now = some_from_digits c.split_sign-negative.result.1.now (omega arith) a in
    exponent_is _ _ _ c.behind_zeros-significant.result.now _ _ false c.value_of_digits-value.result _ c.in-Some.ensures.1 c.split_sign-negative.ensures.found.1 some
    c.behind_zeros-significant.ensures c.if-significant-gt-MOST_EXPONENT_DIGITS.false (c.split_sign-negative.ensures.found.2 ∙ c.if-negative.false) c.value_of_digits-value.ensures.value (omega (arith, ints, c.value_of_digits-value.ensures.below))
