-- The numbers of RFC 8259, section 6, which are also those of a query (RFC 9535, section 2.3.5.1), and their exact values.
use Rattle.std.specs.Prelude.{◌≡◌, ℕ, ◌^◌, Bool, true, false, cond, ◌||◌, ◌==◌, nat_lt, List, [], ◌∷◌, ◌++◌, length, drop, slice_index, ℤ, pos, neg_ℤ, ◌-ℤ◌, ◌*ℤ◌, nat_abs, int_lt, Option, Some, None, ⊤, if◌then◌else◌}
use Rattle.std.specs.declared.cmp.Ordering.{Ordering}
use Rattle.std.specs.Ordering.{int_cmp, is_lt, is_eq}
use Rattle.jp_model.specs.Characters.{is_digit, digits_value}
use Rattle.jp_model.specs.Json.Places.{Reads}

-- *DIGIT
abbrev pub AreDigits : List ℕ → Type 0
AreDigits [] = ⊤
AreDigits (d ∷ ds) = (is_digit d ≡ true) × AreDigits ds

-- 1*DIGIT
abbrev pub AreSomeDigits : List ℕ → Type 0
AreSomeDigits [] = ⊥
AreSomeDigits (d ∷ ds) = AreDigits (d ∷ ds)

-- int = "0" / DIGIT1 *DIGIT
abbrev pub IsInt : List ℕ → Type 0
IsInt [] = ⊥
IsInt (d ∷ []) = is_digit d ≡ true
IsInt (d ∷ e ∷ ds) = (is_digit d ≡ true) × ((d == 0x30) ≡ false) × AreDigits (e ∷ ds)

-- the sign of an exponent, if it has one
pub data Sign : Type 0 where
  no_sign : Sign
  plus_sign : Sign
  minus_sign : Sign

-- an exponent part without its "e"
pub record Exponent : Type 0 where
  pub capital : Bool
  pub sign : Sign
  pub digits : List ℕ

-- the parts of a number as it is spelled; no fraction digits stand for no fraction part
pub record Numeral : Type 0 where
  pub negative : Bool
  pub int : List ℕ
  pub fraction : List ℕ
  pub exponent : Option Exponent

-- an exponent part has some digits
abbrev pub IsExponent : Option Exponent → Type 0
IsExponent None = ⊤
IsExponent (Some e) = AreSomeDigits e.digits

-- the parts that the grammar allows
pub record IsNumeral (n : Numeral) : Type 0 where
  pub int : IsInt n.int
  pub fraction : AreDigits n.fraction
  pub exponent : IsExponent n.exponent

-- [ minus ]
abbrev pub minus_bytes : Bool → List ℕ
minus_bytes negative = cond negative (0x2D ∷ []) []

-- [ frac ]
abbrev pub fraction_bytes : List ℕ → List ℕ
fraction_bytes [] = []
fraction_bytes (d ∷ ds) = 0x2E ∷ d ∷ ds

-- [ minus / plus ]
abbrev pub sign_bytes : Sign → List ℕ
sign_bytes no_sign = []
sign_bytes plus_sign = 0x2B ∷ []
sign_bytes minus_sign = 0x2D ∷ []

-- [ exp ]
abbrev pub exponent_bytes : Option Exponent → List ℕ
exponent_bytes None = []
exponent_bytes (Some e) = cond e.capital 0x45 0x65 ∷ (sign_bytes e.sign ++ e.digits)

-- number = [ minus ] int [ frac ] [ exp ]
abbrev pub numeral_bytes : Numeral → List ℕ
numeral_bytes n = minus_bytes n.negative ++ (n.int ++ (fraction_bytes n.fraction ++ exponent_bytes n.exponent))

-- a number with a minus, or without
abbrev pub signed : Bool → ℕ → ℤ
signed negative n = cond negative (neg_ℤ (pos n)) (pos n)

-- the sign is a minus
abbrev pub is_minus : Sign → Bool
is_minus no_sign = false
is_minus plus_sign = false
is_minus minus_sign = true

-- what an exponent part stands for, 0 where there is none
abbrev pub exponent_value : Option Exponent → ℤ
exponent_value None = pos 0
exponent_value (Some e) = signed (is_minus e.sign) (digits_value e.digits)

-- a number is m times ten to the e: m is the signed digits without the point
abbrev pub mantissa : Numeral → ℤ
mantissa n = signed n.negative (digits_value (n.int ++ n.fraction))

-- and e is the exponent less the count of fraction digits
abbrev pub scale : Numeral → ℤ
scale n = exponent_value n.exponent -ℤ pos (length n.fraction)

-- the bytes of a line from a place up to another spell m times ten to the e
pub record SpellsNumber (line : List ℕ) (from to : ℕ) (m e : ℤ) : Type 0 where
  pub numeral : Numeral
  pub correct : IsNumeral numeral
  pub bytes : Reads line from to (numeral_bytes numeral)
  pub is_mantissa : mantissa numeral ≡ m
  pub is_scale : scale numeral ≡ e

-- ---- the number at the front of some bytes, by its parts

-- the first byte, and 0 where there is none
abbrev pub head_of : List ℕ → ℕ
head_of bytes = slice_index bytes 0

-- the bytes after the first
abbrev pub tail_of : List ℕ → List ℕ
tail_of bytes = drop 1 bytes

-- *DIGIT: the digits at the front
abbrev pub leading_digits : List ℕ → List ℕ
leading_digits [] = []
leading_digits (b ∷ bytes) = cond (is_digit b) (b ∷ leading_digits bytes) []

-- [ minus / plus ]: the sign at the front
abbrev pub leading_sign : List ℕ → Sign
leading_sign bytes = cond (head_of bytes == 0x2B) plus_sign (cond (head_of bytes == 0x2D) minus_sign no_sign)

-- the bytes after a sign
abbrev pub behind_sign : Sign → List ℕ → List ℕ
behind_sign no_sign bytes = bytes
behind_sign plus_sign bytes = tail_of bytes
behind_sign minus_sign bytes = tail_of bytes

-- [ exp ]: the exponent part at the front
abbrev pub leading_exponent : List ℕ → Option Exponent
leading_exponent bytes =
    cond ((head_of bytes == 0x65) || (head_of bytes == 0x45))
    (Some (record { capital = head_of bytes == 0x45; sign = leading_sign (tail_of bytes); digits = leading_digits (behind_sign (leading_sign (tail_of bytes)) (tail_of bytes)) })) None

-- [ frac ]: the digits after a point at the front
abbrev pub leading_fraction : List ℕ → List ℕ
leading_fraction bytes = cond (head_of bytes == 0x2E) (leading_digits (tail_of bytes)) []

-- [ frac ] [ exp ]: the parts after an int
abbrev pub parts_behind_int : Bool → List ℕ → List ℕ → Numeral
parts_behind_int negative int bytes = record {
  negative = negative;
  int = int;
  fraction = leading_fraction bytes;
  exponent = leading_exponent (drop (length (fraction_bytes (leading_fraction bytes))) bytes);
}

-- int [ frac ] [ exp ]: the parts after a minus
abbrev pub parts_behind_minus : Bool → List ℕ → Numeral
parts_behind_minus negative bytes = parts_behind_int negative (leading_digits bytes) (drop (length (leading_digits bytes)) bytes)

-- number: the parts of the number at the front. Any bytes give parts, and IsNumeral tells whether they are a number's.
abbrev pub numeral_of : List ℕ → Numeral
numeral_of bytes = parts_behind_minus (head_of bytes == 0x2D) (drop (length (minus_bytes (head_of bytes == 0x2D))) bytes)

-- ---- the length of an exponent

-- digits without their leading zeros, which do not count (profile)
abbrev pub without_leading_zeros : List ℕ → List ℕ
without_leading_zeros [] = []
without_leading_zeros (d ∷ ds) = if d == 0x30 then without_leading_zeros ds else d ∷ ds

-- the digits of an exponent that count (profile)
abbrev pub exponent_digits : Option Exponent → List ℕ
exponent_digits None = []
exponent_digits (Some e) = without_leading_zeros e.digits

-- more than 15 digits of an exponent stand after its leading zeros (profile)
abbrev pub is_long_exponent : Numeral → Bool
is_long_exponent n = nat_lt 15 (length (exponent_digits n.exponent))

-- ---- the order of values

-- the smaller of two exponents
abbrev pub smaller : ℤ → ℤ → ℤ
smaller a b = cond (int_lt a b) a b

-- the power of ten that brings an exponent to one that is no greater
abbrev pub power_from : ℤ → ℤ → ℕ
power_from least e = 10 ^ nat_abs (e -ℤ least)

-- m times ten to the e, brought to an exponent that is no greater
abbrev pub brought_to : ℤ → ℤ → ℤ → ℤ
brought_to least m e = m *ℤ pos (power_from least e)

-- m times ten to the e against n times ten to the f, by their exact values: both are brought to the smaller exponent and
-- compared as whole numbers (RFC 9535, section 2.3.5.2.2; profile)
abbrev pub number_order : ℤ → ℤ → ℤ → ℤ → Ordering
number_order m e n f = int_cmp (brought_to (smaller e f) m e) (brought_to (smaller e f) n f)

-- the first of two numbers is less
abbrev pub number_less : ℤ → ℤ → ℤ → ℤ → Bool
number_less m e n f = is_lt (number_order m e n f)

-- two numbers are equal
abbrev pub number_equal : ℤ → ℤ → ℤ → ℤ → Bool
number_equal m e n f = is_eq (number_order m e n f)
