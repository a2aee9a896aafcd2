-- What the bytes of a number are read as (RFC 8259, section 6), and why bytes are refused.
use Rattle.std.specs.Prelude.{◌≡◌, ℕ, List, true, false}
use Rattle.jp_decimal.specs.declared.fault.NumberFault.{NumberFault}
use Rattle.jp_decimal.specs.declared.fault.NumberFault.TheVariants.{Shape, Exponent}
use Rattle.jp_model.specs.Json.Numbers.{Numeral, IsNumeral, numeral_bytes, numeral_of, is_long_exponent, mantissa, scale}
use Rattle.jp_decimal.specs.Values.{Number}

-- the bytes spell these parts, and no others
pub record SpellsNumeral (bytes : List ℕ) (numeral : Numeral) : Type 0 where
  pub correct : IsNumeral numeral
  pub spelled : numeral_bytes numeral ≡ bytes
  pub only : numeral_of bytes ≡ numeral

-- they spell a number whose exponent is short enough, and this is its value
pub record ReadsAs (bytes : List ℕ) (x : Number) : Type 0 where
  pub numeral : Numeral
  pub spells : SpellsNumeral bytes numeral
  pub short : is_long_exponent numeral ≡ false
  pub is_mantissa : mantissa numeral ≡ x.mantissa
  pub is_scale : scale numeral ≡ x.scale

-- they spell a number whose exponent is too long (profile)
pub record SpellsTooLong (bytes : List ℕ) : Type 0 where
  pub numeral : Numeral
  pub spells : SpellsNumeral bytes numeral
  pub long : is_long_exponent numeral ≡ true

-- the bytes are no number, or one whose exponent is too long
abbrev pub RefusesNumber : List ℕ → NumberFault → Type 0
RefusesNumber bytes Shape = (n : Numeral) → IsNumeral n → numeral_bytes n ≡ bytes → ⊥
RefusesNumber bytes Exponent = SpellsTooLong bytes
