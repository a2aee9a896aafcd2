-- Keys are in the order of the values that they stand for, and stand for equal values where that is `Equal`.
use Rattle.std.proofs.Common.{◌≡◌, ℕ, sym, ◌∙◌, ap, ap₂, refl, List, chars, Ordering}
use Rattle.std.specs.Prelude.{string_bytes}
use Rattle.std.specs.Cmp.Lexicographic.{slice_cmp}
use Rattle.std.specs.Ordering.{nat_cmp, is_eq}
use Rattle.std.proofs.lemmas.Str.{encodes-chars, IsUtf8-string_bytes}
use Rattle.std.proofs.lemmas.Map.Text.{is_eq-slice_cmp}
use Rattle.jp_decimal.proofs.KeyLaw.{keys_order}
use Rattle.jp_model.specs.Json.Tree.{Value}
use Rattle.jp_model.specs.Meaning.Compare.{values_equal}
use Rattle.jp_values.specs.declared.key.Key.{Key}
use Rattle.jp_values.specs.declared.key.Key.TheVariants as keys
use Rattle.jp_values.specs.Keys.{IsKeyOf, key_order, value_order}
use Rattle.jp_strings.proofs.Orders.{encodes_ordered}

along : (v w x y : Value) (o : Ordering) → v ≡ x → w ≡ y → o ≡ value_order x y → o ≡ value_order v w
along v w x y o e f h = h ∙ sym (ap₂ value_order e f)

pub keys_in_order : (k l : Key) (x y : Value) → IsKeyOf k x → IsKeyOf l y → key_order k l ≡ value_order x y
keys_in_order keys.Null keys.Null x y p q = along x y _ _ _ p q refl
keys_in_order keys.Null keys.False x y p q = along x y _ _ _ p q refl
keys_in_order keys.Null keys.True x y p q = along x y _ _ _ p q refl
keys_in_order keys.Null (keys.Number l) x y p q = along x y _ _ _ p q.1 refl
keys_in_order keys.Null (keys.Text t) x y p q = along x y _ _ _ p q refl
keys_in_order keys.False keys.Null x y p q = along x y _ _ _ p q refl
keys_in_order keys.False keys.False x y p q = along x y _ _ _ p q refl
keys_in_order keys.False keys.True x y p q = along x y _ _ _ p q refl
keys_in_order keys.False (keys.Number l) x y p q = along x y _ _ _ p q.1 refl
keys_in_order keys.False (keys.Text t) x y p q = along x y _ _ _ p q refl
keys_in_order keys.True keys.Null x y p q = along x y _ _ _ p q refl
keys_in_order keys.True keys.False x y p q = along x y _ _ _ p q refl
keys_in_order keys.True keys.True x y p q = along x y _ _ _ p q refl
keys_in_order keys.True (keys.Number l) x y p q = along x y _ _ _ p q.1 refl
keys_in_order keys.True (keys.Text t) x y p q = along x y _ _ _ p q refl
keys_in_order (keys.Number k) keys.Null x y p q = along x y _ _ _ p.1 q refl
keys_in_order (keys.Number k) keys.False x y p q = along x y _ _ _ p.1 q refl
keys_in_order (keys.Number k) keys.True x y p q = along x y _ _ _ p.1 q refl
keys_in_order (keys.Number k) (keys.Number l) x y p q = along x y _ _ _ p.1 q.1 (keys_order k l p.0 q.0 p.2 q.2)
keys_in_order (keys.Number k) (keys.Text t) x y p q = along x y _ _ _ p.1 q refl
keys_in_order (keys.Text s) keys.Null x y p q = along x y _ _ _ p q refl
keys_in_order (keys.Text s) keys.False x y p q = along x y _ _ _ p q refl
keys_in_order (keys.Text s) keys.True x y p q = along x y _ _ _ p q refl
keys_in_order (keys.Text s) (keys.Number l) x y p q = along x y _ _ _ p q.1 refl
keys_in_order (keys.Text s) (keys.Text t) x y p q =
    let first = encodes-chars (string_bytes s) (IsUtf8-string_bytes s) in
    let second = encodes-chars (string_bytes t) (IsUtf8-string_bytes t) in
    along x y _ _ _ p q (sym (ap₂ (λ (a b : List ℕ). slice_cmp nat_cmp a b) first second) ∙ encodes_ordered (chars (string_bytes s)) (chars (string_bytes t)))

ties_along : (v w x y : Value) → v ≡ x → w ≡ y → is_eq (value_order x y) ≡ values_equal x y → is_eq (value_order v w) ≡ values_equal v w
ties_along v w x y e f h = ap is_eq (ap₂ value_order e f) ∙ (h ∙ sym (ap₂ values_equal e f))

-- values with keys tie exactly where they are equal
pub values_tie : (k l : Key) (x y : Value) → IsKeyOf k x → IsKeyOf l y → is_eq (value_order x y) ≡ values_equal x y
values_tie keys.Null keys.Null x y p q = ties_along x y _ _ p q refl
values_tie keys.Null keys.False x y p q = ties_along x y _ _ p q refl
values_tie keys.Null keys.True x y p q = ties_along x y _ _ p q refl
values_tie keys.Null (keys.Number l) x y p q = ties_along x y _ _ p q.1 refl
values_tie keys.Null (keys.Text t) x y p q = ties_along x y _ _ p q refl
values_tie keys.False keys.Null x y p q = ties_along x y _ _ p q refl
values_tie keys.False keys.False x y p q = ties_along x y _ _ p q refl
values_tie keys.False keys.True x y p q = ties_along x y _ _ p q refl
values_tie keys.False (keys.Number l) x y p q = ties_along x y _ _ p q.1 refl
values_tie keys.False (keys.Text t) x y p q = ties_along x y _ _ p q refl
values_tie keys.True keys.Null x y p q = ties_along x y _ _ p q refl
values_tie keys.True keys.False x y p q = ties_along x y _ _ p q refl
values_tie keys.True keys.True x y p q = ties_along x y _ _ p q refl
values_tie keys.True (keys.Number l) x y p q = ties_along x y _ _ p q.1 refl
values_tie keys.True (keys.Text t) x y p q = ties_along x y _ _ p q refl
values_tie (keys.Number k) keys.Null x y p q = ties_along x y _ _ p.1 q refl
values_tie (keys.Number k) keys.False x y p q = ties_along x y _ _ p.1 q refl
values_tie (keys.Number k) keys.True x y p q = ties_along x y _ _ p.1 q refl
values_tie (keys.Number k) (keys.Number l) x y p q = ties_along x y _ _ p.1 q.1 refl
values_tie (keys.Number k) (keys.Text t) x y p q = ties_along x y _ _ p.1 q refl
values_tie (keys.Text s) keys.Null x y p q = ties_along x y _ _ p q refl
values_tie (keys.Text s) keys.False x y p q = ties_along x y _ _ p q refl
values_tie (keys.Text s) keys.True x y p q = ties_along x y _ _ p q refl
values_tie (keys.Text s) (keys.Number l) x y p q = ties_along x y _ _ p q.1 refl
values_tie (keys.Text s) (keys.Text t) x y p q = ties_along x y _ _ p q (is_eq-slice_cmp (chars (string_bytes s)) (chars (string_bytes t)))
