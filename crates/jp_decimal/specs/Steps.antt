-- What each step of reading takes off the bytes: an exponent part, what stands after the int, and a number without its sign.
use Rattle.std.specs.Prelude.{◌≡◌, ℕ, nat_lt, ◌++◌, Bool, true, false, cond, List, length, ℤ, Option}
use Rattle.jp_decimal.specs.declared.fault.NumberFault.{NumberFault}
use Rattle.jp_decimal.specs.declared.fault.NumberFault.TheVariants.{Shape, Exponent}
use Rattle.jp_decimal.specs.declared.parts.Magnitude.{Magnitude}
use Rattle.jp_model.specs.Json.Numbers as numeral
use Rattle.jp_model.specs.Json.Numbers.{Numeral, IsNumeral, IsExponent, AreDigits, exponent_digits, exponent_bytes, exponent_value, fraction_bytes}

-- more than 15 digits of an exponent stand after its leading zeros (profile)
abbrev pub is_long : Option numeral.Exponent → Bool
is_long x = nat_lt 15 (length (exponent_digits x))

-- [ exp ] alone
pub record SpellsExponent (bytes : List ℕ) (x : Option numeral.Exponent) : Type 0 where
  pub correct : IsExponent x
  pub spelled : exponent_bytes x ≡ bytes

-- a short one of this value
pub record ExponentIs (bytes : List ℕ) (e : ℤ) : Type 0 where
  pub exponent : Option numeral.Exponent
  pub spells : SpellsExponent bytes exponent
  pub short : is_long exponent ≡ false
  pub is : exponent_value exponent ≡ e

-- none, or one that is too long
abbrev pub RefusesExponent : List ℕ → NumberFault → Type 0
RefusesExponent bytes Shape = (x : Option numeral.Exponent) → SpellsExponent bytes x → ⊥
RefusesExponent bytes Exponent = (x : Option numeral.Exponent) × SpellsExponent bytes x × (is_long x ≡ true)

-- [ frac ] [ exp ]
pub record SpellsBehindInt (bytes fraction : List ℕ) (x : Option numeral.Exponent) : Type 0 where
  pub digits : AreDigits fraction
  pub correct : IsExponent x
  pub spelled : fraction_bytes fraction ++ exponent_bytes x ≡ bytes

-- these fraction digits, and a short exponent of this value
pub record BehindIntIs (bytes fraction : List ℕ) (e : ℤ) : Type 0 where
  pub exponent : Option numeral.Exponent
  pub spells : SpellsBehindInt bytes fraction exponent
  pub short : is_long exponent ≡ false
  pub is : exponent_value exponent ≡ e

-- no such parts, or an exponent that is too long
abbrev pub RefusesBehindInt : List ℕ → NumberFault → Type 0
RefusesBehindInt bytes Shape = (f : List ℕ) (x : Option numeral.Exponent) → SpellsBehindInt bytes f x → ⊥
RefusesBehindInt bytes Exponent = (f : List ℕ) × (x : Option numeral.Exponent) × SpellsBehindInt bytes f x × (is_long x ≡ true)

-- the letter of an exponent part
abbrev pub letter : Bool → ℕ
letter capital = cond capital 0x45 0x65

-- int [ frac ] [ exp ]
pub record SpellsUnsigned (bytes : List ℕ) (n : Numeral) : Type 0 where
  pub correct : IsNumeral n
  pub spelled : n.int ++ (fraction_bytes n.fraction ++ exponent_bytes n.exponent) ≡ bytes

-- these digits, and a short exponent of this value
pub record MagnitudeIs (bytes : List ℕ) (m : Magnitude) : Type 0 where
  pub numeral : Numeral
  pub spells : SpellsUnsigned bytes numeral
  pub short : is_long numeral.exponent ≡ false
  pub int : numeral.int ≡ m.int.now
  pub fraction : numeral.fraction ≡ m.fraction.now
  pub exponent : exponent_value numeral.exponent ≡ m.exponent

-- no number without a sign, or one whose exponent is too long
abbrev pub RefusesUnsigned : List ℕ → NumberFault → Type 0
RefusesUnsigned bytes Shape = (n : Numeral) → SpellsUnsigned bytes n → ⊥
RefusesUnsigned bytes Exponent = (n : Numeral) × SpellsUnsigned bytes n × (is_long n.exponent ≡ true)
