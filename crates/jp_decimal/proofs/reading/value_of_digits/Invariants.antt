use Rattle.std.proofs.Common.{◌≡◌, take}
use Rattle.jp_model.specs.Characters.{digits_value}
use Rattle.jp_decimal.proofs.reading.value_of_digits.Given as goal

abbrev pub invariant-loop-digit : goal.invariant-loop-digit
invariant-loop-digit l = l.value ≡ digits_value (take l.digit-index l.digits)
