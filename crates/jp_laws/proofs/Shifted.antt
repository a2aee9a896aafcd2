-- The same number, ten times the digits at an exponent one less.
use Rattle.std.proofs.Common.{◌≡◌, ◌^◌, sym, ◌∙◌, ap, arith, ℤ, pos, ◌-ℤ◌, ◌*ℤ◌, nat_abs, Equal}
use Rattle.std.proofs.lemmas.Int.{ints}
use Rattle.std.specs.Ordering.{int_cmp}
use Rattle.jp_model.specs.Json.Numbers.{smaller, brought_to, power_from, number_order}

abbrev pub ten : ℤ → ℤ
ten m = m *ℤ pos 10

abbrev pub lower : ℤ → ℤ
lower e = e -ℤ pos 1

one_power : (e : ℤ) → power_from (lower e) e ≡ 10
one_power e = ap (λ n. 10 ^ n) (let h : nat_abs (e -ℤ lower e) ≡ 1 = omega (arith, ints) in h)

no_power : (e : ℤ) → power_from (lower e) (lower e) ≡ 1
no_power e = ap (λ n. 10 ^ n) (let h : nat_abs (lower e -ℤ lower e) ≡ 0 = omega (arith, ints) in h)

times_one : (m : ℤ) → m *ℤ pos 1 ≡ m
times_one m = omega (arith, ints)

least_lower : (e : ℤ) → smaller e (lower e) ≡ lower e
least_lower e = grind (arith, ints)

same_tens : (m e : ℤ) → brought_to (lower e) m e ≡ brought_to (lower e) (ten m) (lower e)
same_tens m e = ap (λ n. m *ℤ pos n) (one_power e) ∙ sym (ap (λ n. ten m *ℤ pos n) (no_power e) ∙ times_one (ten m))

ties : (x : ℤ) → int_cmp x x ≡ Equal
ties x = grind (arith, ints)

pub shifted : (m e : ℤ) → number_order m e (ten m) (lower e) ≡ Equal
shifted m e =
    ap (λ l. int_cmp (brought_to l m e) (brought_to l (ten m) (lower e))) (least_lower e) ∙ (ap (λ x. int_cmp x (brought_to (lower e) (ten m) (lower e))) (same_tens m e) ∙ ties (brought_to (lower e) (ten m) (lower e)))
