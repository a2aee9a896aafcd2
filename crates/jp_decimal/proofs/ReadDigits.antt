-- The value of digits, one more at a time.
use Rattle.std.proofs.Common.{◌≡◌, ℕ, zero, suc, ◌+◌, ◌-◌, ◌*◌, ◌^◌, ◌<◌, ◌≤◌, Bool, true, false, cond, ◌==◌, List, [], ◌∷◌, length, take, get_or, ◌∙◌, ap, refl, arith}
use Rattle.std.proofs.lemmas.Bool.Decides.{nat_tests}
use Rattle.std.proofs.lemmas.List.{take_more, length-take}
use Rattle.std.proofs.Math.Nat.{pow-le-pow_right}
use Rattle.jp_model.specs.Characters.{is_digit, digits_value, value_behind}
use Rattle.jp_model.specs.Json.Numbers.{AreDigits, without_leading_zeros}
use Rattle.jp_decimal.proofs.Law.{value_below, behind_append}

digit_low : (d : ℕ) → is_digit d ≡ true → 0x30 ≤ d
digit_low d h = grind (arith, nat_tests, h)

digit_high : (d : ℕ) → is_digit d ≡ true → d ≤ 0x39
digit_high d h = grind (arith, nat_tests, h)

pub digit_in : (ds : List ℕ) (i : ℕ) → AreDigits ds → i < length ds → is_digit (get_or ds i 0) ≡ true
digit_in [] i a l = absurd (omega arith)
digit_in (d ∷ ds) zero a l = a.0
digit_in (d ∷ ds) (suc i) a l = digit_in ds i a.1 (omega arith)

pub low_at : (ds : List ℕ) (i : ℕ) → AreDigits ds → i < length ds → 0x30 ≤ get_or ds i 0
low_at ds i a l = digit_low _ (digit_in ds i a l)

pub high_at : (ds : List ℕ) (i : ℕ) → AreDigits ds → i < length ds → get_or ds i 0 ≤ 0x39
high_at ds i a l = digit_high _ (digit_in ds i a l)

pub value_more : (ds : List ℕ) (i : ℕ) → i < length ds → digits_value (take (i + 1) ds) ≡ digits_value (take i ds) * 10 + (get_or ds i 0 - 0x30)
value_more ds i l = ap digits_value (take_more ds i 0 l) ∙ behind_append 0 (take i ds) (get_or ds i 0 ∷ [])

take_digits : (ds : List ℕ) (i : ℕ) → AreDigits ds → AreDigits (take i ds)
take_digits ds zero a = tt
take_digits [] (suc i) a = tt
take_digits (d ∷ ds) (suc i) a = (a.0, take_digits ds i a.1)

pub value_at : (ds : List ℕ) (i : ℕ) → AreDigits ds → i < length ds → length ds ≤ 15 → digits_value (take i ds) < 10 ^ 14
value_at ds i a l s =
    let n : length (take i ds) ≤ 14 = omega (arith, length-take i ds) in
    let p : 10 ^ length (take i ds) ≤ 10 ^ 14 = pow-le-pow_right {n = 10} (omega arith) n in
    omega (arith, value_below (take i ds) (take_digits ds i a), p)

pub value_short : (ds : List ℕ) → AreDigits ds → length ds ≤ 15 → digits_value ds < 10 ^ 15
value_short ds a s =
    let p : 10 ^ length ds ≤ 10 ^ 15 = pow-le-pow_right {n = 10} (omega arith) s in
    omega (arith, value_below ds a, p)

pub digits_by_index : (ds : List ℕ) (n : ℕ) → n ≤ length ds → ((j : ℕ) → j < n → is_digit (get_or ds j 0x30) ≡ true) → AreDigits (take n ds)
digits_by_index ds zero l h = tt
digits_by_index [] (suc n) l h = tt
digits_by_index (d ∷ ds) (suc n) l h = (h 0 (omega arith), digits_by_index ds n (omega arith) (λ j m. h (suc j) (omega arith)))

pub without_zeros_digits : (ds : List ℕ) → AreDigits ds → AreDigits (without_leading_zeros ds)
without_zeros_digits [] a = tt
without_zeros_digits (d ∷ ds) a =
    elim (d == 0x30) as (λ b. AreDigits (cond b (without_leading_zeros ds) (d ∷ ds))) [ true ↦ without_zeros_digits ds a.1 | false ↦ a ]

without_zeros_step : (b : Bool) (d : ℕ) (ds : List ℕ) → (d == 0x30) ≡ b → digits_value (without_leading_zeros ds) ≡ digits_value ds → digits_value (cond b (without_leading_zeros ds) (d ∷ ds)) ≡ digits_value (d ∷ ds)
without_zeros_step true d ds e h = let z : 0 ≡ 0 * 10 + (d - 0x30) = grind (arith, nat_tests, e) in h ∙ ap (λ n. value_behind n ds) z
without_zeros_step false d ds e h = refl

pub without_zeros_value : (ds : List ℕ) → digits_value (without_leading_zeros ds) ≡ digits_value ds
without_zeros_value [] = refl
without_zeros_value (d ∷ ds) = without_zeros_step (d == 0x30) d ds refl (without_zeros_value ds)

pub below_at : (v : ℕ) (ds : List ℕ) → v ≡ digits_value ds → AreDigits ds → length ds ≤ 15 → v < 10 ^ 15
below_at v ds e a s = rw e (value_short ds a s)
