-- Digits without zeros after them, compared as lists, are in the order of what they stand for.
use Rattle.std.proofs.Common.{◌≡◌, ℕ, zero, suc, ◌+◌, ◌-◌, ◌*◌, ◌^◌, ◌<◌, ◌≤◌, ◌≢◌, true, List, [], ◌∷◌, length, get_or, sym, inl, inr, ◌∙◌, ap, refl, arith, pow-add}
use Rattle.std.specs.Ordering.{nat_cmp}
use Rattle.std.specs.Cmp.Lexicographic.{slice_cmp}
use Rattle.std.proofs.lemmas.Bool.{cases_order}
use Rattle.std.proofs.lemmas.Bool.Decides.{nat_tests}
use Rattle.std.proofs.Math.Nat.{one-le-pow, mul-pos}
use Rattle.jp_model.specs.Characters.{is_digit, digits_value}
use Rattle.jp_model.specs.Json.Numbers.{AreDigits}
use Rattle.jp_decimal.specs.Magnitudes.{BeginsWithZeros}
use Rattle.jp_decimal.proofs.Law.{first_digit, same_position_less}
use Rattle.jp_decimal.proofs.Sizes.{nat_less, nat_greater, nat_same}

abbrev pub LastIsNoZero : List ℕ → Type 0
LastIsNoZero ds = 0 < length ds → get_or ds (length ds - 1) 0x30 ≢ 0x30

last_of_tail : (d : ℕ) (ds : List ℕ) → LastIsNoZero (d ∷ ds) → LastIsNoZero ds
last_of_tail d [] h l = absurd (omega arith)
last_of_tail d (e ∷ es) h l = λ z. h (omega arith) (ap (λ n. get_or (d ∷ e ∷ es) n 0x30) (let a : suc (suc (length es)) - 1 ≡ suc (suc (length es) - 1) = omega arith in a) ∙ z)

digit_low : (d : ℕ) → is_digit d ≡ true → d ≢ 0x30 → 1 ≤ d - 0x30
digit_low d h n = grind (arith, nat_tests, h)

pub some_digit : (ds : List ℕ) (k : ℕ) → AreDigits ds → get_or ds k 0x30 ≢ 0x30 → 0 < digits_value ds
some_digit [] k a n = absurd (n refl)
some_digit (d ∷ ds) zero a n =
    let h : 0 < (d - 0x30) * 10 ^ length ds = mul-pos (digit_low d a.0 n) (one-le-pow (length ds) 10 (omega arith)) in
    rw (first_digit d ds) (omega (arith, h))
some_digit (d ∷ ds) (suc k) a n = let h = some_digit ds k a.1 n in rw (first_digit d ds) (omega (arith, h))

shifted : (d v n x : ℕ) → (d * 10 ^ n + v) * 10 ^ x ≡ d * 10 ^ (n + x) + v * 10 ^ x
shifted d v n x = rw (pow-add 10 n x) (omega arith)

front_shifted : (d : ℕ) (ds : List ℕ) (x : ℕ) → digits_value (d ∷ ds) * 10 ^ x ≡ (d - 0x30) * 10 ^ (length ds + x) + digits_value ds * 10 ^ x
front_shifted d ds x = ap (λ v. v * 10 ^ x) (first_digit d ds) ∙ shifted (d - 0x30) (digits_value ds) (length ds) x

nat_cmp_plus : (c a b : ℕ) → nat_cmp (c + a) (c + b) ≡ nat_cmp a b
nat_cmp_plus c a b = grind (arith, nat_tests)

pub no_zeros : (ds : List ℕ) → BeginsWithZeros ds 0
no_zeros ds j l = absurd (omega arith)

none_above : (x b q : ℕ) → 0 < b → 0 < q → 0 * x < b * q
none_above x b q h g = let k : 0 < b * q = mul-pos h g in omega (arith, k)

pub in_order : (xs ys : List ℕ) (x y : ℕ) → AreDigits xs → AreDigits ys → LastIsNoZero xs → LastIsNoZero ys → length xs + x ≡ length ys + y
    → slice_cmp nat_cmp xs ys ≡ nat_cmp (digits_value xs * 10 ^ x) (digits_value ys * 10 ^ y)
in_order [] [] x y a b p q e = sym (nat_same _ _ (let h : 0 * 10 ^ x ≡ 0 * 10 ^ y = omega arith in h))
in_order [] (d ∷ ds) x y a b p q e =
    sym (nat_less _ _ (none_above (10 ^ x) (digits_value (d ∷ ds)) (10 ^ y) (some_digit (d ∷ ds) _ b (q (omega arith))) (one-le-pow y 10 (omega arith))))
in_order (d ∷ ds) [] x y a b p q e =
    sym (nat_greater _ _ (none_above (10 ^ y) (digits_value (d ∷ ds)) (10 ^ x) (some_digit (d ∷ ds) _ a (p (omega arith))) (one-le-pow x 10 (omega arith))))
in_order (c ∷ xs) (d ∷ ys) x y a b p q e =
    elim (cases_order c d) [
      | inl same ↦
          rw (nat_same c d same, front_shifted c xs x, front_shifted d ys y, same, (let n : length xs + x ≡ length ys + y = omega arith in n))
          (in_order xs ys x y a.1 b.1 (last_of_tail c xs p) (last_of_tail d ys q) (omega arith) ∙ sym (nat_cmp_plus ((d - 0x30) * 10 ^ (length ys + y)) (digits_value xs * 10 ^ x) (digits_value ys * 10 ^ y)))
      | inr (inl less) ↦
          rw (nat_less c d less)
          (sym (nat_less _ _ (same_position_less (c ∷ xs) (d ∷ ys) x y 0 0 0 a b (no_zeros (c ∷ xs)) (no_zeros (d ∷ ys)) (omega arith) (λ i l. absurd (omega arith)) less)))
      | inr (inr more) ↦
          rw (nat_greater c d more)
          (sym (nat_greater _ _ (same_position_less (d ∷ ys) (c ∷ xs) y x 0 0 0 b a (no_zeros (d ∷ ys)) (no_zeros (c ∷ xs)) (omega arith) (λ i l. absurd (omega arith)) more)))
    ]
