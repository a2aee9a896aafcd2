-- The order of exact values is total: any three numbers can be brought to one exponent, and compared there.
use Rattle.std.proofs.Common.{◌≡◌, ℕ, suc, ◌+◌, ◌*◌, ◌^◌, ◌<◌, true, false, sym, ◌∙◌, ap, ap₂, refl, arith, ℤ, pos, negsuc, neg_ℤ, ◌-ℤ◌, ◌*ℤ◌, ◌<ℤ◌, ◌≤ℤ◌, nat_abs, pow-add, Less, Equal}
use Rattle.std.specs.Cmp.{IsTotalOrder, int_cmp_is}
use Rattle.std.specs.Ordering.{MatchOrdering, int_cmp, ordering_reverse}
use Rattle.std.proofs.lemmas.Cmp.{by_ranked, int_ranked, int_cmp_total}
use Rattle.std.proofs.lemmas.Int.{ints}
use Rattle.std.proofs.Math.Nat.{one-le-pow, mul-pos, mul-lt-mul_of_pos_right}
use Rattle.jp_model.specs.Json.Numbers.{smaller, brought_to, power_from}
use Rattle.jp_decimal.specs.Values.{Number, order}
use Rattle.jp_decimal.proofs.Signs.{signed_times}

pos_below : (p q : ℕ) → p < q → pos p <ℤ pos q
pos_below p q h = omega (arith, ints)

minus_below : (p q : ℕ) → 0 < p → neg_ℤ (pos p) <ℤ pos q
minus_below p q h = omega (arith, ints)

both_below : (p q : ℕ) → q < p → neg_ℤ (pos p) <ℤ neg_ℤ (pos q)
both_below p q h = omega (arith, ints)

never_below : (a b : ℕ) → pos a <ℤ negsuc b → ⊥
never_below a b h = omega (arith, ints)

from_pos : (a b : ℕ) → pos a <ℤ pos b → a < b
from_pos a b h = omega (arith, ints)

from_minus : (a b : ℕ) → negsuc a <ℤ negsuc b → suc b < suc a
from_minus a b h = omega (arith, ints)

above : (a : ℕ) → 0 < suc a
above a = omega arith

times_less : (m n : ℤ) (c : ℕ) → 0 < c → m <ℤ n → (m *ℤ pos c) <ℤ (n *ℤ pos c)
times_less (pos a) (pos b) c k h = pos_below (a * c) (b * c) (mul-lt-mul_of_pos_right (from_pos a b h) k)
times_less (pos a) (negsuc b) c k h = absurd (never_below a b h)
times_less (negsuc a) (pos b) c k h = minus_below (suc a * c) (b * c) (mul-pos (above a) k)
times_less (negsuc a) (negsuc b) c k h = both_below (suc a * c) (suc b * c) (mul-lt-mul_of_pos_right (from_minus a b h) k)

scaled_match : (m n : ℤ) (c : ℕ) → 0 < c → MatchOrdering (int_cmp m n) ((m *ℤ pos c) <ℤ (n *ℤ pos c)) ((m *ℤ pos c) ≡ (n *ℤ pos c)) ((n *ℤ pos c) <ℤ (m *ℤ pos c))
scaled_match m n c k =
    by_ranked (m <ℤ n) (m ≡ n) (n <ℤ m) (int_cmp m n) (int_ranked m n (int_cmp m n) refl)
    (λ e h. rw e (times_less m n c k h)) (λ e h. rw e (ap (λ z. z *ℤ pos c) h)) (λ e h. rw e (times_less n m c k h))

scaled : (m n : ℤ) (c : ℕ) → 0 < c → int_cmp m n ≡ int_cmp (m *ℤ pos c) (n *ℤ pos c)
scaled m n c k = int_cmp_is (m *ℤ pos c) (n *ℤ pos c) (int_cmp m n) (scaled_match m n c k)

regroup : (a u v : ℕ) → a * (u * v) ≡ a * u * v
regroup a u v = omega arith

times_times : (m : ℤ) (u v : ℕ) → m *ℤ pos (u * v) ≡ m *ℤ pos u *ℤ pos v
times_times (pos a) u v = signed_times false a (u * v) ∙ (ap pos (regroup a u v) ∙ sym (signed_times false (a * u) v))
times_times (negsuc a) u v =
    signed_times true (suc a) (u * v) ∙ (ap (λ n. neg_ℤ (pos n)) (regroup (suc a) u v) ∙ sym (ap (λ z. z *ℤ pos v) (signed_times true (suc a) u) ∙ signed_times true (suc a * u) v))

apart : (l s e : ℤ) → l ≤ℤ s → s ≤ℤ e → nat_abs (e -ℤ l) ≡ nat_abs (e -ℤ s) + nat_abs (s -ℤ l)
apart l s e h k = omega (arith, ints)

lower : (l s m e : ℤ) → l ≤ℤ s → s ≤ℤ e → brought_to l m e ≡ brought_to s m e *ℤ pos (10 ^ nat_abs (s -ℤ l))
lower l s m e h k = ap (λ n. m *ℤ pos n) (ap (λ n. 10 ^ n) (apart l s e h k) ∙ pow-add 10 (nat_abs (e -ℤ s)) (nat_abs (s -ℤ l))) ∙ times_times m (power_from s e) (10 ^ nat_abs (s -ℤ l))

ten_power : (n : ℕ) → 0 < 10 ^ n
ten_power n = one-le-pow n 10 (omega arith)

smaller_left : (e f : ℤ) → smaller e f ≤ℤ e
smaller_left e f = grind (arith, ints)

smaller_right : (e f : ℤ) → smaller e f ≤ℤ f
smaller_right e f = grind (arith, ints)

-- the order is that of the values at any exponent that is no greater than either
at_common : (x y : Number) (l : ℤ) → l ≤ℤ smaller x.scale y.scale → order x y ≡ int_cmp (brought_to l x.mantissa x.scale) (brought_to l y.mantissa y.scale)
at_common x y l h =
    let s : ℤ = smaller x.scale y.scale in
    scaled (brought_to s x.mantissa x.scale) (brought_to s y.mantissa y.scale) (10 ^ nat_abs (s -ℤ l)) (ten_power (nat_abs (s -ℤ l)))
    ∙ sym (ap₂ int_cmp (lower l s x.mantissa x.scale h (smaller_left x.scale y.scale)) (lower l s y.mantissa y.scale h (smaller_right x.scale y.scale)))

abbrev least : Number → Number → Number → ℤ
least x y z = smaller (smaller x.scale y.scale) z.scale

first_two : (e f g : ℤ) → smaller (smaller e f) g ≤ℤ smaller e f
first_two e f g = grind (arith, ints)

last_two : (e f g : ℤ) → smaller (smaller e f) g ≤ℤ smaller f g
last_two e f g = grind (arith, ints)

outer_two : (e f g : ℤ) → smaller (smaller e f) g ≤ℤ smaller e g
outer_two e f g = grind (arith, ints)

swapped : (e f : ℤ) → smaller e f ≤ℤ smaller f e
swapped e f = grind (arith, ints)

itself : (e : ℤ) → e ≤ℤ e
itself e = omega (arith, ints)

abbrev at : ℤ → Number → ℤ
at l x = brought_to l x.mantissa x.scale

turned : (x y : Number) → order x y ≡ ordering_reverse (order y x)
turned x y =
    let l : ℤ = smaller x.scale y.scale in
    at_common x y l (itself l) ∙ (int_cmp_total.antisymm (at l x) (at l y) ∙ sym (ap ordering_reverse (at_common y x l (swapped x.scale y.scale))))

chained : (x y z : Number) → order x y ≡ Less → order y z ≡ Less → order x z ≡ Less
chained x y z p q =
    let l : ℤ = least x y z in
    at_common x z l (outer_two x.scale y.scale z.scale)
    ∙ int_cmp_total.trans (at l x) (at l y) (at l z) (sym (at_common x y l (first_two x.scale y.scale z.scale)) ∙ p) (sym (at_common y z l (last_two x.scale y.scale z.scale)) ∙ q)

alike : (x y z : Number) → order x y ≡ Equal → order x z ≡ order y z
alike x y z p =
    let l : ℤ = least x y z in
    at_common x z l (outer_two x.scale y.scale z.scale)
    ∙ (int_cmp_total.congr (at l x) (at l y) (at l z) (sym (at_common x y l (first_two x.scale y.scale z.scale)) ∙ p) ∙ sym (at_common y z l (last_two x.scale y.scale z.scale)))

pub order_total : IsTotalOrder order
order_total = record { antisymm = turned; trans = chained; congr = alike }
