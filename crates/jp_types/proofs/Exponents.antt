-- The digits of an exponent that count.
use Rattle.std.proofs.Common.{◌≡◌, ℕ, Bool, true, false, cond, if◌then◌else◌, ◌==◌, ◌||◌, List, [], ◌∷◌, refl, ap, arith}
use Rattle.std.proofs.lemmas.Bool.{cond-true}
use Rattle.std.proofs.lemmas.Bool.Decides.{nat_tests}
use Rattle.jp_model.specs.Characters.{is_digit}
use Rattle.jp_model.specs.Json.Numbers.{head_of, tail_of, leading_digits, leading_sign, behind_sign, leading_exponent, exponent_digits, without_leading_zeros}

-- a zero is a digit
zero_is_digit : (b : ℕ) → (b == 0x30) ≡ true → is_digit b ≡ true
zero_is_digit b h = grind (arith, nat_tests, h)

-- the digits after the letter and the sign
pub letter_read : (text : List ℕ) → ((head_of text == 0x65) || (head_of text == 0x45)) ≡ true
    → exponent_digits (leading_exponent text) ≡ without_leading_zeros (leading_digits (behind_sign (leading_sign (tail_of text)) (tail_of text)))
letter_read text h = ap exponent_digits (cond-true _ _ _ h)

-- the zeros are digits, so they can be left out first
pub digits_behind_zeros : (x : List ℕ) → without_leading_zeros (leading_digits x) ≡ leading_digits (without_leading_zeros x)
digits_behind_zeros [] = refl
digits_behind_zeros (b ∷ x) = step (digits_behind_zeros x) (b == 0x30) (is_digit b) refl refl
  where
    step : without_leading_zeros (leading_digits x) ≡ leading_digits (without_leading_zeros x) → (z d : Bool) → (b == 0x30) ≡ z → is_digit b ≡ d → without_leading_zeros (cond d (b ∷ leading_digits x) []) ≡ leading_digits (if z then without_leading_zeros x else b ∷ x)
    step h true true e n = rw e h
    step h true false e n = let y = zero_is_digit b e in absurd (cc)
    step h false true e n = rw (e, n) refl
    step h false false e n = rw n refl
