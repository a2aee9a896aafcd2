-- Values that say the same compare alike.
use Rattle.std.proofs.Common.{◌≡◌, ℕ, suc, ℤ, nat_eq, List, Bool, true, ◌&&◌, bytes_eq, Option, is_eq, is_lt, refl, ap, ap₂, ◌∙◌, if◌then◌else◌}
use Rattle.std.specs.Cmp.{IsTotalOrder}
use Rattle.std.proofs.lemmas.Cmp.{alike_right}
use Rattle.jp_decimal.specs.Values.{order}
use Rattle.jp_model.specs.Json.Numbers.{number_equal, number_order}
use Rattle.jp_model.specs.Json.Tree.{Value, array, object, Children, count_children}
use Rattle.jp_model.specs.Meaning.Compare.{compared, values_equal, elements_equal, member_passes, members_within, value_less}
use Rattle.jp_model.specs.Query.Syntax.{CompareOp}
use Rattle.jp_laws.specs.Alike.{AlikeChildren, next_child, no_more, named_alike, unnamed, alike_trees, AlikeValues, alike_booleans, alike_containers, alike_nulls, alike_numbers, alike_strings}
use Rattle.jp_laws.proofs.NumberOrder.{is_equal, of}
use Rattle.jp_laws.proofs.Sides.{Sides, sides_compared}

module _ (order_total : IsTotalOrder order) where
  same_orders : (m e n f k g l h : ℤ) → number_equal m e n f ≡ true → number_equal k g l h ≡ true → number_order m e k g ≡ number_order n f l h
  same_orders m e n f k g l h p q = order_total.congr (of m e) (of n f) (of k g) (is_equal _ p) ∙ alike_right order_total (of k g) (of l h) (of n f) (is_equal _ q)

  pub same_count : {cs ds : Children} → AlikeChildren cs ds → count_children cs ≡ count_children ds
  same_count no_more = refl
  same_count (next_child n t a) = ap suc (same_count a)

  -- the member of a name passes tests that agree on values that are alike
  member_alike : (x y : List ℕ) (p q : Value → Bool) → x ≡ y → ((v w : Value) → AlikeValues v w → p v ≡ q w) → {cs ds : Children} → AlikeChildren cs ds → member_passes x p cs ≡ member_passes y q ds
  member_alike x y p q e f no_more = refl
  member_alike x y p q e f (next_child unnamed t a) = member_alike x y p q e f a
  member_alike x y p q e f (next_child {cs = cs} (named_alike {a = m} {b = n} h) (alike_trees {v = v} {w = w} t) a) =
      ap₂ (λ (i j : List ℕ). if bytes_eq i j then p v else member_passes x p cs) e h
      ∙ ap₂ (λ (b c : Bool). if bytes_eq y n.points then b else c) (f v w t) (member_alike x y p q e f a)

  mutual
    pub equal_alike : {x y v w : Value} → AlikeValues x y → AlikeValues v w → values_equal x v ≡ values_equal y w
    equal_alike (alike_numbers {m = m} {e = e} {n = n} {f = f} a) (alike_numbers {m = k} {e = g} {n = l} {f = h} b) = ap is_eq (same_orders m e n f k g l h a b)
    equal_alike (alike_containers {k = array} a) (alike_containers {k = array} b) = elements_alike a b
    equal_alike (alike_containers {k = object} a) (alike_containers {k = object} b) = ap₂ (λ (i j : Bool). i && j) (ap₂ nat_eq (same_count a) (same_count b)) (members_alike a b)
    equal_alike alike_nulls alike_nulls = refl
    equal_alike alike_booleans alike_booleans = refl
    equal_alike alike_strings alike_strings = refl
    equal_alike a b = refl

    elements_alike : {cs ds es fs : Children} → AlikeChildren cs ds → AlikeChildren es fs → elements_equal cs es ≡ elements_equal ds fs
    elements_alike (next_child m (alike_trees t) a) (next_child n (alike_trees u) b) = ap₂ (λ (i j : Bool). i && j) (equal_alike t u) (elements_alike a b)
    elements_alike no_more no_more = refl
    elements_alike a b = refl

    members_alike : {cs ds es fs : Children} → AlikeChildren cs ds → AlikeChildren es fs → members_within cs es ≡ members_within ds fs
    members_alike no_more b = refl
    members_alike (next_child unnamed (alike_trees t) a) b = members_alike a b
    members_alike (next_child (named_alike {a = m} {b = n} h) (alike_trees {v = v} {w = w} t) a) b =
        ap₂ (λ (i j : Bool). i && j) (member_alike m.points n.points (λ y. values_equal v y) (λ y. values_equal w y) h (λ y z k. equal_alike t k) b) (members_alike a b)

  less_alike : {x y v w : Value} → AlikeValues x y → AlikeValues v w → value_less x v ≡ value_less y w
  less_alike (alike_numbers {m = m} {e = e} {n = n} {f = f} a) (alike_numbers {m = k} {e = g} {n = l} {f = h} b) = ap is_lt (same_orders m e n f k g l h a b)
  less_alike alike_strings alike_strings = refl
  less_alike a b = refl

  pub alike_compared : (op : CompareOp) (x y v w : Option Value) → Sides AlikeValues x y → Sides AlikeValues v w → compared op x v ≡ compared op y w
  alike_compared = sides_compared AlikeValues (λ x y v w a b. equal_alike a b) (λ x y v w a b. less_alike a b)
