-- Keys are in the order of the numbers that they stand for.
use Rattle.std.proofs.Common.{◌≡◌, ℕ, ◌+◌, ◌*◌, ◌^◌, ◌<◌, ◌⊎◌, Bool, true, false, length, get_or, sym, inl, inr, ◌∙◌, ap, ap₂, refl, arith, ℤ, pos, ◌+ℤ◌, ◌-ℤ◌, ◌<ℤ◌, nat_abs, pow-add, Less, Equal, Greater}
use Rattle.std.specs.Ordering.{nat_cmp, int_cmp, ordering_reverse}
use Rattle.std.proofs.lemmas.Bool.Decides.{nat_tests}
use Rattle.std.proofs.lemmas.Cmp.{by_ranked, int_ranked}
use Rattle.std.proofs.lemmas.Int.{ints}
use Rattle.jp_decimal.specs.declared.key.KeySize.{KeySize}
use Rattle.jp_decimal.specs.declared.key.DecimalKey.{DecimalKey}
use Rattle.jp_decimal.specs.declared.key.DecimalKey.TheVariants.{Negative, Zero, Positive}
use Rattle.jp_model.specs.Characters.{digits_value}
use Rattle.jp_model.specs.Json.Numbers.{AreDigits, signed, number_order, smaller}
use Rattle.jp_decimal.specs.Values.{Number, order}
use Rattle.jp_decimal.specs.Keys.{IsSignedSizeOf, IsKeyOf, key_order, size_key_order}
use Rattle.jp_model.proofs.Reader.Numbers.{digits_found}
use Rattle.jp_decimal.proofs.Law.{lower_position}
use Rattle.jp_decimal.proofs.Sizes.{balance, leads, nat_less, nat_greater, nat_same}
use Rattle.jp_decimal.proofs.Signs.{signed_times, order_plus, order_minus, order_apart, order_apart_turned, zero_from_times}
use Rattle.jp_decimal.proofs.KeyOrder.{in_order, some_digit, no_zeros}

int_cases : (p q : ℤ) → ((int_cmp p q ≡ Less) × (p <ℤ q)) ⊎ (((int_cmp p q ≡ Equal) × (p ≡ q)) ⊎ ((int_cmp p q ≡ Greater) × (q <ℤ p)))
int_cases p q = by_ranked (p <ℤ q) (p ≡ q) (q <ℤ p) (int_cmp p q) (int_ranked p q (int_cmp p q) refl) (λ e h. inl (e, h)) (λ e h. inr (inl (e, h))) (λ e h. inr (inr (e, h)))

key_digits : (k : KeySize) → AreDigits k.digits.items
key_digits k = digits_found k.digits.items k.are_digits

key_leads : (k : KeySize) → 0x30 < get_or k.digits.items 0 0x30
key_leads k = leads k.digits.items 0 (key_digits k) k.first

above_zero : (k : KeySize) → digits_value k.digits.items ≡ 0 → ⊥
above_zero k e = let h = some_digit k.digits.items 0 (key_digits k) k.first in absurd (omega arith)

-- the digits with zeros after them, at a common exponent
gathered : (v t a : ℕ) → v * 10 ^ t * 10 ^ a ≡ v * 10 ^ (t + a)
gathered v t a = rw (pow-add 10 t a) (omega arith)

below : (e f p q : ℤ) (m n t s a b : ℕ) → pos a +ℤ f ≡ pos b +ℤ e → e +ℤ pos t ≡ p -ℤ pos m → f +ℤ pos s ≡ q -ℤ pos n → p <ℤ q → m + (t + a) + 0 < n + (s + b) + 0
below e f p q m n t s a b g h k l = omega (arith, ints)

level : (e f p q : ℤ) (m n t s a b : ℕ) → pos a +ℤ f ≡ pos b +ℤ e → e +ℤ pos t ≡ p -ℤ pos m → f +ℤ pos s ≡ q -ℤ pos n → p ≡ q → m + (t + a) ≡ n + (s + b)
level e f p q m n t s a b g h k l = omega (arith, ints)

sizes_brought : (k l : KeySize) (e f : ℤ) (t s a b : ℕ) → pos a +ℤ f ≡ pos b +ℤ e → e +ℤ pos t ≡ k.power -ℤ pos (length k.digits.items) → f +ℤ pos s ≡ l.power -ℤ pos (length l.digits.items)
    → size_key_order k l ≡ nat_cmp (digits_value k.digits.items * 10 ^ (t + a)) (digits_value l.digits.items * 10 ^ (s + b))
sizes_brought k l e f t s a b g h i =
    elim (int_cases k.power l.power) [
      | inl w ↦ rw w.0 (sym (nat_less _ _ (lower_position k.digits.items l.digits.items (t + a) (s + b) 0 0 (key_digits k) (key_digits l) (no_zeros _) (no_zeros _) (key_leads l)
          (below e f k.power l.power _ _ t s a b g h i w.1))))
      | inr (inl w) ↦ rw w.0 (in_order k.digits.items l.digits.items (t + a) (s + b) (key_digits k) (key_digits l) (λ _. k.last) (λ _. l.last)
          (level e f k.power l.power _ _ t s a b g h i w.1))
      | inr (inr w) ↦ rw w.0 (sym (nat_greater _ _ (lower_position l.digits.items k.digits.items (s + b) (t + a) 0 0 (key_digits l) (key_digits k) (no_zeros _) (no_zeros _) (key_leads k)
          (below f e l.power k.power _ _ s t b a (sym g) i h w.1))))
    ]

sizes : (k l : KeySize) (e f : ℤ) (t s a b : ℕ) → pos a +ℤ f ≡ pos b +ℤ e → e +ℤ pos t ≡ k.power -ℤ pos (length k.digits.items) → f +ℤ pos s ≡ l.power -ℤ pos (length l.digits.items)
    → size_key_order k l ≡ nat_cmp (digits_value k.digits.items * 10 ^ t * 10 ^ a) (digits_value l.digits.items * 10 ^ s * 10 ^ b)
sizes k l e f t s a b g h i =
    sizes_brought k l e f t s a b g h i ∙ sym (ap₂ nat_cmp (gathered (digits_value k.digits.items) t a) (gathered (digits_value l.digits.items) s b))

abbrev up_left : Number → Number → ℕ
up_left x y = nat_abs (x.scale -ℤ smaller x.scale y.scale)

abbrev up_right : Number → Number → ℕ
up_right x y = nat_abs (y.scale -ℤ smaller x.scale y.scale)

signed_order : (s t : Bool) (a b : ℕ) (x y : Number) → x.mantissa ≡ signed s a → y.mantissa ≡ signed t b → order x y ≡ int_cmp (signed s (a * 10 ^ up_left x y)) (signed t (b * 10 ^ up_right x y))
signed_order s t a b x y e f =
    ap₂ (λ m n. number_order m x.scale n y.scale) e f ∙ ap₂ int_cmp (signed_times s a (10 ^ up_left x y)) (signed_times t b (10 ^ up_right x y))

turned : (a b : ℕ) → nat_cmp a b ≡ ordering_reverse (nat_cmp b a)
turned a b = grind (arith, nat_tests)

not_nothing : (k : KeySize) (t a : ℕ) → digits_value k.digits.items * 10 ^ t * 10 ^ a ≡ 0 → ⊥
not_nothing k t a e = above_zero k (zero_from_times _ t (zero_from_times (digits_value k.digits.items * 10 ^ t) a e))

positive : (n : ℕ) → (n ≡ 0 → ⊥) → 0 < n
positive n h = grind arith

nothing : (a : ℕ) → 0 * 10 ^ a ≡ 0
nothing a = omega arith

zero_below : (z n : ℕ) → z ≡ 0 → 0 < n → z < n
zero_below z n e h = omega arith

mantissa_of_key : (k : KeySize) (s : Bool) (x : Number) (p : IsSignedSizeOf k s x) → x.mantissa ≡ signed s (digits_value k.digits.items * 10 ^ p.is_size.zeros)
mantissa_of_key k s x p = p.is_signed ∙ ap (signed s) p.is_size.is_mantissa

pub keys_order : (k l : DecimalKey) (x y : Number) → IsKeyOf k x → IsKeyOf l y → key_order k l ≡ order x y
keys_order (Negative k) (Negative l) x y p q =
    sizes l.0 k.0 y.scale x.scale q.is_size.zeros p.is_size.zeros (up_right x y) (up_left x y) (sym (balance x.scale y.scale)) q.is_size.is_scale p.is_size.is_scale
    ∙ (turned (digits_value l.0.digits.items * 10 ^ q.is_size.zeros * 10 ^ up_right x y) (digits_value k.0.digits.items * 10 ^ p.is_size.zeros * 10 ^ up_left x y) ∙ sym (signed_order true true _ _ x y (mantissa_of_key _ _ x p) (mantissa_of_key _ _ y q) ∙ order_minus (digits_value k.0.digits.items * 10 ^ p.is_size.zeros * 10 ^ up_left x y) (digits_value l.0.digits.items * 10 ^ q.is_size.zeros * 10 ^ up_right x y)))
keys_order (Negative k) Zero x y p q =
    sym (signed_order true false _ 0 x y (mantissa_of_key _ _ x p) q ∙ order_apart (digits_value k.0.digits.items * 10 ^ p.is_size.zeros * 10 ^ up_left x y) (0 * 10 ^ up_right x y) (λ e f. not_nothing k.0 p.is_size.zeros (up_left x y) e))
keys_order (Negative k) (Positive l) x y p q =
    sym (signed_order true false _ _ x y (mantissa_of_key _ _ x p) (mantissa_of_key _ _ y q) ∙ order_apart (digits_value k.0.digits.items * 10 ^ p.is_size.zeros * 10 ^ up_left x y) (digits_value l.digits.items * 10 ^ q.is_size.zeros * 10 ^ up_right x y) (λ e f. not_nothing k.0 p.is_size.zeros (up_left x y) e))
keys_order Zero (Negative l) x y p q =
    sym (signed_order false true 0 _ x y p (mantissa_of_key _ _ y q) ∙ order_apart_turned (0 * 10 ^ up_left x y) (digits_value l.0.digits.items * 10 ^ q.is_size.zeros * 10 ^ up_right x y) (λ e f. not_nothing l.0 q.is_size.zeros (up_right x y) f))
keys_order Zero Zero x y p q =
    sym (signed_order false false 0 0 x y p q ∙ (order_plus (0 * 10 ^ up_left x y) (0 * 10 ^ up_right x y) ∙ nat_same _ _ (nothing (up_left x y) ∙ sym (nothing (up_right x y)))))
keys_order Zero (Positive l) x y p q =
    let some = positive _ (not_nothing l q.is_size.zeros (up_right x y)) in
    sym (signed_order false false 0 _ x y p (mantissa_of_key _ _ y q) ∙ (order_plus (0 * 10 ^ up_left x y) (digits_value l.digits.items * 10 ^ q.is_size.zeros * 10 ^ up_right x y) ∙ nat_less _ _ (zero_below _ _ (nothing (up_left x y)) some)))
keys_order (Positive k) (Negative l) x y p q =
    sym (signed_order false true _ _ x y (mantissa_of_key _ _ x p) (mantissa_of_key _ _ y q) ∙ order_apart_turned (digits_value k.digits.items * 10 ^ p.is_size.zeros * 10 ^ up_left x y) (digits_value l.0.digits.items * 10 ^ q.is_size.zeros * 10 ^ up_right x y) (λ e f. not_nothing k p.is_size.zeros (up_left x y) e))
keys_order (Positive k) Zero x y p q =
    let some = positive _ (not_nothing k p.is_size.zeros (up_left x y)) in
    sym (signed_order false false _ 0 x y (mantissa_of_key _ _ x p) q ∙ (order_plus (digits_value k.digits.items * 10 ^ p.is_size.zeros * 10 ^ up_left x y) (0 * 10 ^ up_right x y) ∙ nat_greater _ _ (zero_below _ _ (nothing (up_right x y)) some)))
keys_order (Positive k) (Positive l) x y p q =
    sizes k l x.scale y.scale p.is_size.zeros q.is_size.zeros (up_left x y) (up_right x y) (balance x.scale y.scale) p.is_size.is_scale q.is_size.is_scale
    ∙ sym (signed_order false false _ _ x y (mantissa_of_key _ _ x p) (mantissa_of_key _ _ y q) ∙ order_plus (digits_value k.digits.items * 10 ^ p.is_size.zeros * 10 ^ up_left x y) (digits_value l.digits.items * 10 ^ q.is_size.zeros * 10 ^ up_right x y))
