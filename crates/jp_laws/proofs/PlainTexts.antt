-- What the plain printer writes can be read, and numbers are spelled as they are.
use Rattle.std.proofs.Common.{◌≡◌, ℕ, ◌+◌, ◌^◌, ◌<◌, ◌-ℤ◌, Bool, true, false, cond, ◌||◌, ◌==◌, nat_lt, nat_abs, List, ◌++◌, length, refl, sym, ap, ◌∙◌, ℤ, pos, arith, append-nil}
use Rattle.std.specs.Char.{IsScalar}
use Rattle.std.specs.Prelude.{int_lt}
use Rattle.std.proofs.lemmas.Bool.{cond_both, le-ltb, ltb-true, ltb-false}
use Rattle.std.proofs.lemmas.Int.{ints}
use Rattle.jp_canon.specs.Layout.{whole_text}
use Rattle.jp_model.specs.Characters.{digits_value}
use Rattle.jp_model.specs.Json.Numbers.{no_sign, minus_sign, is_minus, signed, IsNumeral, mantissa, scale, is_long_exponent}
use Rattle.jp_model.specs.Json.Strings.{SpellsCharacter}
use Rattle.jp_laws.specs.JsonTexts.{plain, plain_character, plain_numeral}
use Rattle.jp_laws.proofs.DigitTexts.{short_digits, spelt, spelt_some, spelt_int}
use Rattle.jp_laws.proofs.Exponents.{counted_digits, its_sign}
use Rattle.jp_laws.proofs.JsonTexts.{IsReadable}
use Rattle.jp_laws.proofs.SpelledCharacters.{control_spelled, escaped_itself, unescaped}
use Rattle.jp_laws.proofs.TextsFrom.{IsTextFrom}

-- ---- scalars

character_spelled : (line : List ℕ) (i c : ℕ) (rest : List ℕ) → IsScalar c → IsTextFrom line i (plain_character c ++ rest) → SpellsCharacter line i (i + length (plain_character c)) c
character_spelled line i c rest sound =
    cond_both ((c == 0x22) || (c == 0x5C)) _ _ (λ text. IsTextFrom line i (text ++ rest) → SpellsCharacter line i (i + length text) c) (λ h s. escaped_itself line i c rest h s)
    (λ plain.
    cond_both (nat_lt c 0x20) _ _ (λ text. IsTextFrom line i (text ++ rest) → SpellsCharacter line i (i + length text) c) (λ h s. control_spelled line i c rest (ltb-true c 32 h) s)
    (λ h s. unescaped line i c rest sound plain (ltb-false c 0x20 h) s))

-- ---- numbers

numeral_correct : (m e : ℤ) → IsNumeral (plain_numeral m e)
numeral_correct m e = record { int = spelt_int (nat_abs m) _ (spelt (nat_abs m)); fraction = tt; exponent = spelt_some (nat_abs e) _ (spelt (nat_abs e)) }

pub plain_readable : IsReadable plain
plain_readable = record { character = character_spelled; numeral = numeral_correct }

pub plain_mantissa : (m e : ℤ) → mantissa (plain_numeral m e) ≡ m
plain_mantissa m e = ap (signed (int_lt m (pos 0))) (ap digits_value (append-nil (whole_text (nat_abs m))) ∙ (spelt (nat_abs m)).value) ∙ sym (its_sign m (int_lt m (pos 0)) refl)

minus_none : (x e : ℤ) → x ≡ e → x -ℤ pos 0 ≡ e
minus_none x e h = omega (arith, ints)

pub plain_scale : (m e : ℤ) → scale (plain_numeral m e) ≡ e
plain_scale m e = minus_none _ e (ap (signed (is_minus (cond (int_lt e (pos 0)) minus_sign no_sign))) (spelt (nat_abs e)).value ∙ (same_sign (int_lt e (pos 0)) ∙ sym (its_sign e (int_lt e (pos 0)) refl)))
  where
    same_sign : (b : Bool) → signed (is_minus (cond b minus_sign no_sign)) (nat_abs e) ≡ signed b (nat_abs e)
    same_sign true = refl
    same_sign false = refl

pub plain_short : (m e : ℤ) → nat_abs e < 10 ^ 15 → is_long_exponent (plain_numeral m e) ≡ false
plain_short m e h = le-ltb 15 _ (let a = counted_digits (whole_text (nat_abs e)) in let b = short_digits (nat_abs e) h in omega arith)
