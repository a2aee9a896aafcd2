-- Where the point of digits stands.
use Rattle.std.proofs.Common.{◌≡◌, ℕ, zero, suc, ◌-◌, ◌<◌, ◌≤◌, inl, inr, Bool, true, false, cond, ◌&&◌, ltb, leb, List, [], ◌∷◌, ◌++◌, length, get_or, ◌≢◌, take, drop, ◌∙◌, refl, ap, ap₂, arith, append-nil, length-drop, ℤ, pos, negsuc, ◌<ℤ◌, ◌≤ℤ◌, nat_abs}
use Rattle.std.proofs.lemmas.Bool.{cases_lt, le-leb, lt-leb, lt-ltb}
use Rattle.std.proofs.lemmas.Int.{ints}
use Rattle.std.proofs.lemmas.List.{drop_all, take_all}
use Rattle.jp_model.specs.Json.Numbers.{fraction_bytes}
use Rattle.jp_canon.specs.Layout.{zeros, with_point}

-- what two tests choose
both_hold : {X : Type 0} (a b : Bool) (x y : X) → a ≡ true → b ≡ true → x ≡ cond (a && b) x y
both_hold true true x y e f = refl
both_hold true false x y e f = absurd (cc)
both_hold false b x y e f = absurd (cc)

first_fails : {X : Type 0} (a b : Bool) (x y : X) → a ≡ false → y ≡ cond (a && b) x y
first_fails true b x y e = absurd (cc)
first_fails false b x y e = refl

-- digits of which the first is no zero
pub some_digits : (s : List ℕ) → get_or s 0 0x30 ≢ 0x30 → 0 < length s
some_digits [] h = absurd (h refl)
some_digits (d ∷ ds) h = omega arith

some_fraction : (ds : List ℕ) → 0 < length ds → fraction_bytes ds ≡ 0x2E ∷ ds
some_fraction [] l = absurd (omega (arith, l))
some_fraction (d ∷ ds) l = refl

-- the first `n` digits before the point, and zeros in place of those that are missing
pub point_inside : (s : List ℕ) (n : ℕ) → 0 < n → n ≤ 21 → (take n s ++ zeros (n - length s)) ++ fraction_bytes (drop n s) ≡ with_point s (pos n)
point_inside s n some few = elim (cases_lt n (length s)) [
  | inl more ↦
      (let none : n - length s ≡ 0 = omega arith in
      let behind : 0 < length (drop n s) = omega (arith, length-drop n s) in
      ap (λ k. (take n s ++ zeros k) ++ fraction_bytes (drop n s)) none ∙ (ap₂ (λ (a b : List ℕ). a ++ b) (append-nil (take n s)) (some_fraction (drop n s) behind)
      ∙ (both_hold (ltb 0 n) (leb n 21) _ _ (lt-ltb 0 n some) (le-leb n 21 few) ∙ first_fails (leb (length s) n) (leb n 21) _ _ (lt-leb (length s) n more))))
  | inr fits ↦
      (ap₂ (λ (a b : List ℕ). (a ++ zeros (n - length s)) ++ fraction_bytes b) (take_all n s fits) (drop_all n s fits) ∙ (append-nil (s ++ zeros (n - length s))
      ∙ both_hold (leb (length s) n) (leb n 21) _ _ (le-leb (length s) n fits) (le-leb n 21 few)))
]

-- zeros between the point and the digits
pub point_before : (s : List ℕ) (z : ℤ) → 0 < length s → negsuc 5 <ℤ z → z ≤ℤ pos 0 → 0x30 ∷ 0x2E ∷ (zeros (nat_abs z) ++ s) ≡ with_point s z
point_before s (pos zero) some low high = first_fails (leb (length s) 0) true _ _ (lt-leb (length s) 0 some)
point_before s (pos (suc n)) some low high = absurd (omega (arith, ints, high))
point_before s (negsuc n) some low high = both_hold (ltb n 5) true _ _ (lt-ltb n 5 (omega (arith, ints, low))) refl
