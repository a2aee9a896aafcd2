-- What is less and what is equal: numbers with one exponent, strings that differ in a scalar, values of two kinds.
use Rattle.std.proofs.Common.{◌≡◌, ℕ, zero, suc, ◌*◌, ◌^◌, ◌<◌, ℤ, pos, ◌*ℤ◌, ◌-ℤ◌, nat_abs, List, [], ◌∷◌, ◌++◌, true, Some, refl, ap, ap₂, ◌∙◌, arith}
use Rattle.std.specs.Cmp.{IsTotalOrder}
use Rattle.std.specs.Ordering.{int_cmp}
use Rattle.std.proofs.lemmas.Bool.{lt-ltb, eq-eqb, or_left, or_right, and_from}
use Rattle.std.proofs.lemmas.Int.{ints}
use Rattle.jp_decimal.specs.Values.{order}
use Rattle.jp_model.specs.Json.Numbers.{number_order, smaller, brought_to, power_from}
use Rattle.jp_model.specs.Json.Tree.{Value, null, boolean, number, string, container, array, object}
use Rattle.jp_model.specs.Meaning.Compare.{compared, text_less, value_less, values_equal}
use Rattle.jp_model.specs.Query.Syntax.{equal}
use native.Mathlib.Numerals.{unary_clauses}
use Rattle.jp_laws.specs.Kinds.{kind}
use Rattle.jp_laws.proofs.NumberOrder.{number_itself, value_right}
use Rattle.jp_laws.proofs.Shifted.{ten, lower}

-- ---- numbers

no_power : (e : ℤ) → power_from e e ≡ 1
no_power e = ap (λ n. 10 ^ n) (let h : nat_abs (e -ℤ e) ≡ 0 = omega (arith, ints) in h)

same_least : (e : ℤ) → smaller e e ≡ e
same_least e = grind (arith, ints)

brought : (m e : ℤ) → brought_to (smaller e e) m e ≡ m
brought m e = ap (λ l. brought_to l m e) (same_least e) ∙ (ap (λ n. m *ℤ pos n) (no_power e) ∙ omega (arith, ints))

pub whole_order : (m n e : ℤ) → number_order m e n e ≡ int_cmp m n
whole_order m n e = ap₂ int_cmp (brought m e) (brought n e)

pub ten_times : (k : ℕ) → 10 ^ suc k ≡ 10 ^ k * 10
ten_times k = simp unary_clauses refl

pub ten_more : (m : ℤ) (p : ℕ) → m *ℤ pos (p * 10) ≡ ten (m *ℤ pos p)
ten_more m p = grind (arith, ints)

module _ (order_total : IsTotalOrder order) where
  pub with_zeros : (m e : ℤ) (k : ℕ) → compared equal (Some (number m e)) (Some (number (m *ℤ pos (10 ^ k)) (e -ℤ pos k))) ≡ true
  with_zeros m e zero =
      ap₂ (λ (n f : ℤ). compared equal (Some (number m e)) (Some (number n f))) (let h : m *ℤ pos (10 ^ 0) ≡ m = omega (arith, ints) in h) (let h : e -ℤ pos 0 ≡ e = omega (arith, ints) in h)
      ∙ number_itself order_total m e
  with_zeros m e (suc k) =
      let n : ℤ = m *ℤ pos (10 ^ k) in
      let f : ℤ = e -ℤ pos k in
      ap₂ (λ (n f : ℤ). compared equal (Some (number m e)) (Some (number n f))) (ap (λ p. m *ℤ pos p) (ten_times k) ∙ ten_more m (10 ^ k)) (let h : e -ℤ pos (suc k) ≡ lower f = omega (arith, ints) in h)
      ∙ (value_right order_total equal n f (Some (number m e)) ∙ with_zeros m e k)

-- ---- strings

pub less_behind : (p x y : List ℕ) (a b : ℕ) → a < b → text_less (p ++ a ∷ x) (p ++ b ∷ y) ≡ true
less_behind [] x y a b l = or_left _ _ (lt-ltb a b l)
less_behind (c ∷ p) x y a b l = or_right _ _ (and_from _ _ (eq-eqb c c refl) (less_behind p x y a b l))

pub less_beginning : (x y : List ℕ) (b : ℕ) → text_less x (x ++ b ∷ y) ≡ true
less_beginning [] y b = refl
less_beginning (a ∷ x) y b = or_right _ _ (and_from _ _ (eq-eqb a a refl) (less_beginning x y b))

-- ---- kinds

pub equal_kinds : (x y : Value) → values_equal x y ≡ true → kind x ≡ kind y
equal_kinds null null h = refl
equal_kinds (boolean a) (boolean b) h = refl
equal_kinds (number m e) (number n f) h = refl
equal_kinds (string x) (string y) h = refl
equal_kinds (container array xs) (container array ys) h = refl
equal_kinds (container object xs) (container object ys) h = refl
equal_kinds x y h = absurd (cc)

pub less_kinds : (x y : Value) → value_less x y ≡ true → kind x ≡ kind y
less_kinds (number m e) (number n f) h = refl
less_kinds (string x) (string y) h = refl
less_kinds x y h = absurd (cc)
