-- The order of numbers with a sign, from the order of their sizes.
use Rattle.std.proofs.Common.{◌≡◌, ℕ, zero, suc, ◌*◌, ◌^◌, ◌<◌, Bool, true, false, sym, ◌∙◌, ap, ap₂, refl, arith, pos, negsuc, neg_ℤ, ◌*ℤ◌, Less, Greater}
use Rattle.std.specs.Ordering.{nat_cmp, int_cmp, ordering_reverse}
use Rattle.std.proofs.lemmas.Bool.Decides.{nat_tests}
use Rattle.std.proofs.Math.Nat.{one-le-pow, mul-pos}
use Rattle.jp_model.specs.Json.Numbers.{signed}
use Rattle.jp_decimal.specs.declared.parts.Magnitude.{Magnitude}
use Rattle.jp_decimal.specs.Magnitudes.{unsigned_mantissa, exponent_behind}
use Rattle.jp_decimal.specs.Values.{Number, order}
use Rattle.jp_decimal.proofs.Sizes.{order_of, raised, raised_other}

zero_times : (p : ℕ) → 0 * p ≡ 0
zero_times p = omega arith

neg_times : (a p : ℕ) → neg_ℤ (pos a) *ℤ pos p ≡ neg_ℤ (pos (a * p))
neg_times zero p = ap pos (zero_times p) ∙ sym (ap (λ n. neg_ℤ (pos n)) (zero_times p))
neg_times (suc a) p = refl

pub signed_times : (s : Bool) (a p : ℕ) → signed s a *ℤ pos p ≡ signed s (a * p)
signed_times true a p = neg_times a p
signed_times false a p = refl

pub order_plus : (a b : ℕ) → int_cmp (pos a) (pos b) ≡ nat_cmp a b
order_plus a b = grind (arith, nat_tests)

below_same : (a b : ℕ) → int_cmp (negsuc a) (negsuc b) ≡ ordering_reverse (nat_cmp (suc a) (suc b))
below_same a b = grind (arith, nat_tests)

pub order_minus : (a b : ℕ) → int_cmp (neg_ℤ (pos a)) (neg_ℤ (pos b)) ≡ ordering_reverse (nat_cmp a b)
order_minus zero zero = refl
order_minus zero (suc b) = grind (arith, nat_tests)
order_minus (suc a) zero = grind (arith, nat_tests)
order_minus (suc a) (suc b) = below_same a b

pub order_apart : (a b : ℕ) → (a ≡ 0 → b ≡ 0 → ⊥) → int_cmp (neg_ℤ (pos a)) (pos b) ≡ Less
order_apart zero zero h = absurd (h refl refl)
order_apart zero (suc b) h = grind (arith, nat_tests)
order_apart (suc a) b h = refl

pub order_apart_turned : (a b : ℕ) → (a ≡ 0 → b ≡ 0 → ⊥) → int_cmp (pos a) (neg_ℤ (pos b)) ≡ Greater
order_apart_turned zero zero h = absurd (h refl refl)
order_apart_turned (suc a) zero h = grind (arith, nat_tests)
order_apart_turned a (suc b) h = refl

abbrev pub number_of : Bool → Magnitude → Number
number_of s m = record { mantissa = signed s (unsigned_mantissa m); scale = exponent_behind m }

abbrev pub left : Magnitude → Magnitude → ℕ
left m n = unsigned_mantissa m * 10 ^ raised m n

abbrev pub right : Magnitude → Magnitude → ℕ
right m n = unsigned_mantissa n * 10 ^ raised_other m n

order_with_signs : (s t : Bool) (m n : Magnitude) → order (number_of s m) (number_of t n) ≡ int_cmp (signed s (left m n)) (signed t (right m n))
order_with_signs s t m n = ap₂ int_cmp (signed_times s (unsigned_mantissa m) (10 ^ raised m n)) (signed_times t (unsigned_mantissa n) (10 ^ raised_other m n))

pub both_minus : (s t : Bool) (m n : Magnitude) → s ≡ true → t ≡ true → ordering_reverse (order_of m n) ≡ order (number_of s m) (number_of t n)
both_minus s t m n e f = rw (e, f) (sym (order_with_signs true true m n ∙ order_minus (left m n) (right m n)))

-- a number brought to another exponent is zero only if it was
pub zero_from_times : (a k : ℕ) → a * 10 ^ k ≡ 0 → a ≡ 0
zero_from_times zero k e = refl
zero_from_times (suc a) k e = let h : 0 < suc a * 10 ^ k = mul-pos (omega arith) (one-le-pow k 10 (omega arith)) in absurd (omega arith)

pub minus_plus : (s t : Bool) (m n : Magnitude) → s ≡ true → t ≡ false → ((unsigned_mantissa m ≡ 0) × (unsigned_mantissa n ≡ 0) → ⊥) → Less ≡ order (number_of s m) (number_of t n)
minus_plus s t m n e f h =
    rw (e, f) (sym (order_with_signs true false m n ∙ order_apart (left m n) (right m n) (λ p q. h (zero_from_times _ _ p, zero_from_times _ _ q))))

pub plus_minus : (s t : Bool) (m n : Magnitude) → s ≡ false → t ≡ true → ((unsigned_mantissa m ≡ 0) × (unsigned_mantissa n ≡ 0) → ⊥) → Greater ≡ order (number_of s m) (number_of t n)
plus_minus s t m n e f h =
    rw (e, f) (sym (order_with_signs false true m n ∙ order_apart_turned (left m n) (right m n) (λ p q. h (zero_from_times _ _ p, zero_from_times _ _ q))))
