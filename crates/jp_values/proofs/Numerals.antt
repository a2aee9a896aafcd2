-- The digits of a count are read as the count, and orders the other way round.
use Rattle.std.proofs.Common.{◌≡◌, ℕ, zero, suc, ◌<◌, ◌^◌, false, List, [], ◌∷◌, length, get_or, sym, ◌∙◌, ap, ap₂, arith, ℤ, pos, None, decimal, append-nil}
use Rattle.std.proofs.lemmas.Bool.{ne_eqb}
use Rattle.std.proofs.lemmas.Fmt.{digits_decimal, digits_value-decimal, decimal_nonempty, first_decimal, decimal_digit}
use Rattle.jp_model.proofs.Digits.{digits_model}
use Rattle.jp_model.specs.Characters.{digits_value}
use Rattle.jp_model.specs.Json.Numbers.{Numeral, IsNumeral, IsInt, AreDigits, numeral_bytes, numeral_of, is_long_exponent, mantissa, scale}
use Rattle.jp_model.proofs.Reader.Numbers.{parts_read}
use Rattle.jp_model.proofs.Reader.Lexical.{clash}
use Rattle.jp_decimal.specs.Values.{Number}
use Rattle.jp_decimal.specs.Reading.{ReadsAs, RefusesNumber}
use Rattle.jp_decimal.specs.declared.fault.NumberFault.{NumberFault}
use Rattle.jp_decimal.specs.declared.fault.NumberFault.TheVariants.{Shape, Exponent}
use Rattle.jp_values.specs.Scalars.{count_number}

-- ---- digits

int_of : (ds : List ℕ) → AreDigits ds → 0 < length ds → (get_or ds 0 0 ≡ 0x30 → length ds ≡ 1) → IsInt ds
int_of [] a l z = absurd (omega (arith, l))
int_of (d ∷ []) a l z = a.0
int_of (d ∷ e ∷ ds) a l z = (a.0, ne_eqb d 0x30 (λ h. let n = z h in absurd (omega (arith, n))), a.1)

one_zero : (n : ℕ) → n < 2 ^ 64 → get_or (decimal n) 0 0 ≡ 0x30 → length (decimal n) ≡ 1
one_zero zero h z = ap length (decimal_digit 0 (omega arith))
one_zero (suc n) h z = let f = first_decimal (suc n) (omega arith) h in absurd (omega (arith, f, z))

decimal_int : (n : ℕ) → n < 2 ^ 64 → IsInt (decimal n)
decimal_int n h = int_of (decimal n) (digits_decimal digits_model n h) (decimal_nonempty n h) (one_zero n h)

count_numeral : ℕ → Numeral
count_numeral n = record { negative = false; int = decimal n; fraction = []; exponent = None }

-- the digits of a count are read as the count, and not refused
pub record CountIs (n : ℕ) : Type 0 where
  pub value : (y : Number) → ReadsAs (decimal n) y → y ≡ count_number n
  pub read : (fault : NumberFault) → RefusesNumber (decimal n) fault → ⊥

pub count_is : (n : ℕ) → n < 2 ^ 64 → CountIs n
unfolding count_numeral
count_is n h = record { value = value; read = read }
  where
    correct : IsNumeral (count_numeral n)
    correct = record { int = decimal_int n h; fraction = tt; exponent = tt }

    bytes : numeral_bytes (count_numeral n) ≡ decimal n
    bytes = append-nil (decimal n)

    parts : numeral_of (decimal n) ≡ count_numeral n
    parts = ap numeral_of (sym bytes) ∙ parts_read (count_numeral n) correct

    value : (y : Number) → ReadsAs (decimal n) y → y ≡ count_number n
    value y r =
        let same : r.numeral ≡ count_numeral n = sym r.spells.only ∙ parts in
        let m : mantissa (count_numeral n) ≡ pos n = ap pos (ap digits_value (append-nil (decimal n)) ∙ digits_value-decimal digits_model n h) in
        ap₂ (λ (a b : ℤ). record { mantissa = a; scale = b }) (sym r.is_mantissa ∙ (ap mantissa same ∙ m)) (sym r.is_scale ∙ ap scale same)

    read : (fault : NumberFault) → RefusesNumber (decimal n) fault → ⊥
    read Shape r = r (count_numeral n) correct bytes
    read Exponent r = clash _ r.long (ap is_long_exponent (sym r.spells.only ∙ parts))

-- ---- orders
