-- For which value a number stands.
use Rattle.jp_decimal.specs.declared.decimal.Decimal.{Decimal}
use Rattle.std.specs.Prelude.{◌++◌, length, pos, ◌-ℤ◌}
use Rattle.jp_decimal.specs.declared.numeral.Numeral.{Numeral}
use Rattle.jp_model.specs.Characters.{digits_value}
use Rattle.jp_decimal.specs.Magnitudes.{unsigned_mantissa, exponent_behind}
use Rattle.jp_decimal.specs.Values.{Number}
use Rattle.jp_model.specs.Json.Numbers.{signed}

-- its digits without the point and with its sign, and its exponent less the count of fraction digits
abbrev pub number_of : Decimal → Number
number_of d = record { mantissa = signed d.negative (unsigned_mantissa d.size.magnitude); scale = exponent_behind d.size.magnitude }

-- the same of one that owns its digits
abbrev pub numeral_number : Numeral → Number
numeral_number n = record { mantissa = signed n.negative (digits_value (n.int.items ++ n.fraction.items)); scale = n.exponent -ℤ pos (length n.fraction.items) }
