-- A whole number that fits a word, as it is printed.
use Rattle.std.proofs.Common.{◌≡◌, ℕ, zero, suc, ◌+◌, ◌^◌, ◌<◌, cond, List, [], ◌∷◌, ◌∙◌, map, decimal, sym, ap, arith, pos, negsuc}
use Rattle.std.specs.Int.Digits.{digits_of}
use Rattle.std.proofs.lemmas.Bool.{ne_eqb, le-ltb}
use Rattle.std.proofs.lemmas.Fmt.{decimal_digit, decimal-digits_of}
use Rattle.jp_canon.specs.Layout.{whole_text, exponent_text}

pub whole_some : (n : ℕ) → 0 < n → whole_text n ≡ map (λ digit. 0x30 + digit) (digits_of 10 n)
whole_some n h = ap (λ b. cond b (0x30 ∷ []) (map (λ digit. 0x30 + digit) (digits_of 10 n))) (ne_eqb n 0 (λ e. omega (arith, e, h)))

pub whole_decimal : (n : ℕ) → n < 2 ^ 64 → decimal n ≡ whole_text n
whole_decimal zero h = decimal_digit 0 (omega arith)
whole_decimal (suc n) h = decimal-digits_of (suc n) (omega arith) h ∙ sym (whole_some (suc n) (omega arith))

pub exponent_above : (n : ℕ) → n < 2 ^ 64 → 0x2B ∷ decimal n ≡ exponent_text (pos n)
exponent_above n h = ap (λ (t : List ℕ). 0x2B ∷ t) (whole_decimal n h) ∙ ap (λ b. cond b 0x2D 0x2B ∷ whole_text n) (sym (le-ltb n 0 (omega arith)))

pub exponent_below : (n : ℕ) → n + 1 < 2 ^ 64 → 0x2D ∷ decimal (n + 1) ≡ exponent_text (negsuc n)
exponent_below n h = ap (λ (t : List ℕ). 0x2D ∷ t) (whole_decimal (n + 1) h) ∙ ap (λ k. 0x2D ∷ whole_text k) (let e : n + 1 ≡ suc n = omega arith in e)
