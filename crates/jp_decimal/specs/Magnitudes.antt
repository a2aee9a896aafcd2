-- A number without its sign, as its bytes have it.
use Rattle.std.specs.Prelude.{◌≡◌, ℕ, ◌<◌, ◌≤◌, List, ◌++◌, length, ℤ, pos, ◌+ℤ◌, ◌-ℤ◌, slice_index_or}
use Rattle.jp_decimal.specs.declared.parts.Magnitude.{Magnitude}
use Rattle.jp_model.specs.Characters.{digits_value}

-- the digits without the point
abbrev pub digits : Magnitude → List ℕ
digits m = m.int.now ++ m.fraction.now

-- what they stand for
abbrev pub unsigned_mantissa : Magnitude → ℕ
unsigned_mantissa m = digits_value (digits m)

-- the exponent less the count of fraction digits
abbrev pub exponent_behind : Magnitude → ℤ
exponent_behind m = m.exponent -ℤ pos (length m.fraction.now)

-- the power of ten above the digit at a position
abbrev pub power_above : Magnitude → ℕ → ℤ
power_above m k = m.exponent +ℤ pos (length m.int.now) -ℤ pos k

-- the digits at the first positions are zeros; past the end stand zeros too
abbrev pub BeginsWithZeros : List ℕ → ℕ → Type 0
BeginsWithZeros ds k = (j : ℕ) → j < k → slice_index_or ds j 0x30 ≡ 0x30

-- the digits from a position on are zeros
abbrev pub EndsWithZeros : List ℕ → ℕ → Type 0
EndsWithZeros ds end = (j : ℕ) → end ≤ j → slice_index_or ds j 0x30 ≡ 0x30
