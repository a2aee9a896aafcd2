-- How many different names are among some.
use Rattle.std.proofs.Common.{◌≡◌, ◌∙◌, ◌||◌, ℕ, ◌≤◌, List, [], ◌∷◌, length, Bool, true, false, ap, sym, refl, cond}
use Rattle.std.specs.Prelude.{flat_map}
use Rattle.std.specs.List.{AllByRecursion, IsDistinct, list_any}
use Rattle.std.specs.Set.{distinct_count, is_member, unique_keys}
use Rattle.std.proofs.lemmas.Bool.{or_parts}
use Rattle.std.proofs.lemmas.Cmp.{nat_list_eq_equiv}
use Rattle.std.proofs.lemmas.List.Folds.{list_any-append}
use Rattle.std.proofs.lemmas.Map.Made.{distinct_count-from_IsDistinct, length-le_from_is_member}
use Rattle.std.proofs.lemmas.Map.Steps.{list_any_congr}
use Rattle.jp_model.specs.Characters.{text_equal}

pub none_of : {X : Type 0} (test : X → Bool) (xs : List X) → list_any test xs ≡ false → AllByRecursion (λ x. test x ≡ false) xs
none_of test [] e = tt
none_of test (x ∷ xs) e = let both = or_parts (test x) (list_any test xs) e in (both.0, none_of test xs both.1)

-- a test of what a list is made of
pub any_flat : {X Y : Type 0} (test : Y → Bool) (f : X → List Y) (xs : List X) → list_any test (flat_map f xs) ≡ list_any (λ x. list_any test (f x)) xs
any_flat test f [] = refl
any_flat test f (x ∷ xs) = list_any-append test (f x) (flat_map f xs) ∙ ap (λ (b : Bool). list_any test (f x) || b) (any_flat test f xs)

-- these are the different names among some, each once
record AreNamesOf (names : List (List ℕ)) (each : List (List ℕ)) : Type 0 where
  distinct : IsDistinct text_equal each
  same : (name : List ℕ) → is_member text_equal each name ≡ is_member text_equal names name

one_more : (name : List ℕ) (names each : List (List ℕ)) (b : Bool) → is_member text_equal names name ≡ b → AreNamesOf names each → AreNamesOf (name ∷ names) (cond b each (name ∷ each))
unfolding IsDistinct
one_more name names each true among so = record {
  distinct = so.distinct;
  same = λ other. so.same other ∙ sym (again other (text_equal other name) refl);
}
  where
    again : (other : List ℕ) (b : Bool) → text_equal other name ≡ b → (b || is_member text_equal names other) ≡ is_member text_equal names other
    again other false e = refl
    again other true e = sym (list_any_congr nat_list_eq_equiv other name names e ∙ among)
one_more name names each false among so = record {
  distinct = (none_of (text_equal name) each (so.same name ∙ among), so.distinct);
  same = λ other. ap (λ b. text_equal other name || b) (so.same other);
}

names_once : (names : List (List ℕ)) → AreNamesOf names (unique_keys text_equal names)
unfolding IsDistinct
names_once [] = record { distinct = tt; same = λ name. refl }
names_once (name ∷ names) = one_more name names (unique_keys text_equal names) (is_member text_equal names name) refl (names_once names)

-- names that are all among others are no more
pub fewer_names : (names more : List (List ℕ)) → ((name : List ℕ) → is_member text_equal names name ≡ true → is_member text_equal more name ≡ true)
    → distinct_count text_equal names ≤ distinct_count text_equal more
fewer_names names more within =
    let once = names_once names in let others = names_once more in
    length-le_from_is_member nat_list_eq_equiv (unique_keys text_equal names) (unique_keys text_equal more) once.distinct
    (λ name e. others.same name ∙ within name (sym (once.same name) ∙ e))

pub as_many : (names : List (List ℕ)) → IsDistinct text_equal names → distinct_count text_equal names ≡ length names
as_many names distinct = distinct_count-from_IsDistinct nat_list_eq_equiv names distinct
