-- The order of keys is total.
use Rattle.std.specs.Prelude.{◌≡◌, refl}
use Rattle.std.proofs.Common.{true≢false, sym, ap}
use Rattle.std.specs.declared.cmp.Ordering.TheVariants.{Less, Equal, Greater}
use Rattle.std.specs.Ordering.{is_eq, is_lt, ordering_reverse}
use Rattle.std.specs.Cmp.{IsTotalOrder, on_total, then_total, int_cmp_total, alike_right}
use Rattle.std.specs.Cmp.Lexicographic.{nat_list_cmp_total}
use Rattle.jp_decimal.specs.declared.key.KeySize.{KeySize}
use Rattle.jp_decimal.specs.declared.key.DecimalKey.{DecimalKey}
use Rattle.jp_decimal.specs.declared.key.DecimalKey.TheVariants.{Negative, Zero, Positive}
use Rattle.jp_decimal.specs.Keys.{key_order, size_key_order}

sizes_total : IsTotalOrder size_key_order
sizes_total = then_total (on_total (λ (k : KeySize). k.power) int_cmp_total) (on_total (λ (k : KeySize). k.digits.items) nat_list_cmp_total)

greater_less : {A : Type 0} → Greater ≡ Less → A
greater_less e = absurd (true≢false (sym (ap is_lt e)))

equal_less : {A : Type 0} → Equal ≡ Less → A
equal_less e = absurd (true≢false (sym (ap is_lt e)))

less_equal : {A : Type 0} → Less ≡ Equal → A
less_equal e = absurd (true≢false (ap is_lt e))

greater_equal : {A : Type 0} → Greater ≡ Equal → A
greater_equal e = absurd (true≢false (sym (ap is_eq e)))

turned : (x y : DecimalKey) → key_order x y ≡ ordering_reverse (key_order y x)
turned (Negative k) (Negative l) = sizes_total.antisymm l.0 k.0
turned (Negative k) Zero = refl
turned (Negative k) (Positive l) = refl
turned Zero (Negative l) = refl
turned Zero Zero = refl
turned Zero (Positive l) = refl
turned (Positive k) (Negative l) = refl
turned (Positive k) Zero = refl
turned (Positive k) (Positive l) = sizes_total.antisymm k l

chained : (x y z : DecimalKey) → key_order x y ≡ Less → key_order y z ≡ Less → key_order x z ≡ Less
chained (Negative k) (Negative l) (Negative m) p q = sizes_total.trans m.0 l.0 k.0 q p
chained (Negative k) Zero (Negative m) p q = greater_less q
chained (Negative k) (Positive l) (Negative m) p q = greater_less q
chained (Negative k) y Zero p q = refl
chained (Negative k) y (Positive m) p q = refl
chained Zero (Negative l) z p q = greater_less p
chained Zero Zero z p q = equal_less p
chained Zero (Positive l) (Negative m) p q = greater_less q
chained Zero (Positive l) Zero p q = greater_less q
chained Zero (Positive l) (Positive m) p q = refl
chained (Positive k) (Negative l) z p q = greater_less p
chained (Positive k) Zero z p q = greater_less p
chained (Positive k) (Positive l) (Negative m) p q = greater_less q
chained (Positive k) (Positive l) Zero p q = greater_less q
chained (Positive k) (Positive l) (Positive m) p q = sizes_total.trans k l m p q

alike : (x y z : DecimalKey) → key_order x y ≡ Equal → key_order x z ≡ key_order y z
alike (Negative k) (Negative l) (Negative m) p = sym (alike_right sizes_total l.0 k.0 m.0 p)
alike (Negative k) (Negative l) Zero p = refl
alike (Negative k) (Negative l) (Positive m) p = refl
alike (Negative k) Zero z p = less_equal p
alike (Negative k) (Positive l) z p = less_equal p
alike Zero (Negative l) z p = greater_equal p
alike Zero Zero z p = refl
alike Zero (Positive l) z p = less_equal p
alike (Positive k) (Negative l) z p = greater_equal p
alike (Positive k) Zero z p = greater_equal p
alike (Positive k) (Positive l) (Negative m) p = refl
alike (Positive k) (Positive l) Zero p = refl
alike (Positive k) (Positive l) (Positive m) p = sizes_total.congr k l m p

pub keys_total : IsTotalOrder key_order
keys_total = record { antisymm = turned; trans = chained; congr = alike }
