-- The order of keys is total.
use Rattle.std.specs.Prelude.{◌≡◌, ℕ, List, [], refl, string_bytes}
use Rattle.std.proofs.Common.{subst}
use Rattle.std.specs.declared.cmp.Ordering.{Ordering}
use Rattle.std.specs.declared.cmp.Ordering.TheVariants.{Less, Equal, Greater}
use Rattle.std.specs.Ordering.{nat_cmp, on, ordering_then, then_cmp}
use Rattle.std.specs.Cmp.{IsTotalOrder, on_total, then_total, nat_cmp_total}
use Rattle.std.specs.Cmp.Lexicographic.{slice_cmp, nat_list_cmp_total}
use Rattle.jp_decimal.specs.declared.key.DecimalKey.{DecimalKey}
use Rattle.jp_decimal.specs.declared.key.DecimalKey.TheVariants.{Zero}
use Rattle.jp_decimal.specs.Keys as decimals
use Rattle.jp_decimal.specs.KeyLaws as decimal_laws
use Rattle.jp_values.specs.declared.key.Key.{Key}
use Rattle.jp_values.specs.declared.key.Key.TheVariants as keys
use Rattle.jp_values.specs.Keys.{key_order, key_rank}

-- the number of a key, zero where it has none
abbrev pub number_in : Key → DecimalKey
number_in (keys.Number k) = k
number_in k = Zero

-- the bytes of a key's text, none where it has none
abbrev pub bytes_in : Key → List ℕ
bytes_in (keys.Text s) = string_bytes s
bytes_in k = []

-- kinds, then numbers, then texts
abbrev pub by_parts : Key → Key → Ordering
by_parts = then_cmp (on key_rank nat_cmp) (then_cmp (on number_in decimals.key_order) (on bytes_in (slice_cmp nat_cmp)))

by_parts_total : IsTotalOrder by_parts
by_parts_total = then_total (on_total key_rank nat_cmp_total) (then_total (on_total number_in decimal_laws.keys_total) (on_total bytes_in nat_list_cmp_total))

then_equal : (r : Ordering) → ordering_then r Equal ≡ r
then_equal Less = refl
then_equal Equal = refl
then_equal Greater = refl

-- that is the order of keys
pub parts_are : (k l : Key) → by_parts k l ≡ key_order k l
parts_are keys.Null keys.Null = refl
parts_are keys.Null keys.False = refl
parts_are keys.Null keys.True = refl
parts_are keys.Null (keys.Number l) = refl
parts_are keys.Null (keys.Text t) = refl
parts_are keys.False keys.Null = refl
parts_are keys.False keys.False = refl
parts_are keys.False keys.True = refl
parts_are keys.False (keys.Number l) = refl
parts_are keys.False (keys.Text t) = refl
parts_are keys.True keys.Null = refl
parts_are keys.True keys.False = refl
parts_are keys.True keys.True = refl
parts_are keys.True (keys.Number l) = refl
parts_are keys.True (keys.Text t) = refl
parts_are (keys.Number k) keys.Null = refl
parts_are (keys.Number k) keys.False = refl
parts_are (keys.Number k) keys.True = refl
parts_are (keys.Number k) (keys.Number l) = then_equal (decimals.key_order k l)
parts_are (keys.Number k) (keys.Text t) = refl
parts_are (keys.Text s) keys.Null = refl
parts_are (keys.Text s) keys.False = refl
parts_are (keys.Text s) keys.True = refl
parts_are (keys.Text s) (keys.Number l) = refl
parts_are (keys.Text s) (keys.Text t) = refl

pub keys_total : IsTotalOrder key_order
keys_total = subst IsTotalOrder (λ i x y. parts_are x y i) by_parts_total
