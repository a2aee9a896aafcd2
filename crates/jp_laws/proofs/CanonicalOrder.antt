-- In the tree that a canonical text spells, members stand in the order of their names.
use Rattle.std.proofs.Common.{◌≡◌, ℕ, ◌+◌, List, [], ◌∷◌, map, length, Bool, true, false, ◌&&◌, Some, None, refl, ap, ap₂, subst, ◌∙◌, inl}
use Rattle.std.proofs.lemmas.Bool.{and_from, and_parts, or_parts}
use Rattle.jp_canon.proofs.ByName.{AreAscending, by_name_ascending}
use Rattle.jp_canon.specs.Canonical.{Member, by_name, member_texts}
use Rattle.jp_model.specs.Json.Faults.{names, has_repeated, has_duplicate, value_has_duplicate, children_have_duplicate}
use Rattle.jp_model.specs.Json.Tree.{Tree, node, Value, null, boolean, number, string, container, array, object, Children, no_child, child}
use Rattle.jp_laws.specs.JsonTexts.{Printer, label_text, tree_text}
use Rattle.jp_laws.specs.Ordered.{are_ascending, is_ordered, is_ordered_value, are_ordered}
use Rattle.jp_laws.proofs.CanonicalEquals.{named}
use Rattle.jp_laws.proofs.CanonicalShapes.{put_has}
use Rattle.jp_laws.proofs.CanonicalTrees.{listed, members_printed, sorted, sorted_value, sorted_elements, sorted_members}
use Rattle.jp_laws.proofs.JsonStatuses.{first_names}
use Rattle.jp_laws.proofs.JsonTexts.{placed, placed_value, placed_first, placed_more}

ascending_names : (list : List Member) → AreAscending list → are_ascending (map (λ (m : Member). m.name) list) ≡ true
ascending_names [] a = refl
ascending_names (m ∷ []) a = refl
ascending_names (m ∷ n ∷ list) a = and_from _ _ (a.0 n (inl refl)) (ascending_names (n ∷ list) a.1)

listed_names : (cs : Children) → map (λ (m : Member). m.name) (listed cs) ≡ names cs
listed_names no_child = refl
listed_names (child None t more) = listed_names more
listed_names (child (Some name) t more) = ap (λ (l : List (List ℕ)). name.points ∷ l) (listed_names more)

members_ascend : (cs : Children) → has_repeated (names cs) ≡ false → are_ascending (names (sorted_members cs)) ≡ true
members_ascend cs d =
    subst (λ (l : List (List ℕ)). are_ascending l ≡ true) (ap (map (λ (m : Member). m.name)) (members_printed cs) ∙ listed_names (sorted_members cs)) (ascending_names (by_name (member_texts cs)) (by_name_ascending (member_texts cs) (named cs d)))

mutual
  pub tree_ordered : (t : Tree) → has_duplicate t ≡ false → is_ordered (sorted t) ≡ true
  tree_ordered (node s v) d = value_ordered v d

  value_ordered : (v : Value) → value_has_duplicate v ≡ false → is_ordered_value (sorted_value v) ≡ true
  value_ordered null d = refl
  value_ordered (boolean b) d = refl
  value_ordered (number m e) d = refl
  value_ordered (string x) d = refl
  value_ordered (container array cs) d = elements_ordered cs (or_parts (has_repeated (names cs)) (children_have_duplicate cs) d).1
  value_ordered (container object cs) d = let p = or_parts (has_repeated (names cs)) (children_have_duplicate cs) d in and_from _ _ (members_ascend cs p.0) (members_ordered cs p.1)

  elements_ordered : (cs : Children) → children_have_duplicate cs ≡ false → are_ordered (sorted_elements cs) ≡ true
  elements_ordered no_child d = refl
  elements_ordered (child name t more) d = let p = or_parts (has_duplicate t) (children_have_duplicate more) d in and_from _ _ (tree_ordered t p.0) (elements_ordered more p.1)

  members_ordered : (cs : Children) → children_have_duplicate cs ≡ false → are_ordered (sorted_members cs) ≡ true
  members_ordered no_child d = refl
  members_ordered (child None t more) d = members_ordered more (or_parts (has_duplicate t) (children_have_duplicate more) d).1
  members_ordered (child (Some name) t more) d =
      let p = or_parts (has_duplicate t) (children_have_duplicate more) d in
      put_has (λ cs. are_ordered cs ≡ true) name (sorted t) (λ u g. and_from _ _ (tree_ordered t p.0) g) (λ b u rest again g. let q = and_parts (is_ordered u) (are_ordered rest) g in and_from _ _ q.0 (again q.1))
      (λ u rest again g. let q = and_parts (is_ordered u) (are_ordered rest) g in and_from _ _ q.0 (again q.1)) (sorted_members more) (members_ordered more p.1)

-- ---- also as it stands

module _ (printer : Printer) where
  mutual
    pub placed_ordered : (t : Tree) (i : ℕ) → is_ordered (placed printer i t) ≡ is_ordered t
    placed_ordered (node s v) i = value_placed v i

    value_placed : (v : Value) (i : ℕ) → is_ordered_value (placed_value printer i v) ≡ is_ordered_value v
    value_placed null i = refl
    value_placed (boolean b) i = refl
    value_placed (number m e) i = refl
    value_placed (string x) i = refl
    value_placed (container array cs) i = first_placed cs (i + 1)
    value_placed (container object cs) i = ap₂ (λ (a b : Bool). a && b) (ap are_ascending (first_names printer cs (i + 1))) (first_placed cs (i + 1))

    first_placed : (cs : Children) (i : ℕ) → are_ordered (placed_first printer i cs) ≡ are_ordered cs
    first_placed no_child i = refl
    first_placed (child name t more) i =
        ap₂ (λ (a b : Bool). a && b) (placed_ordered t (i + length (label_text printer name))) (more_placed more (i + length (label_text printer name) + length (tree_text printer t)))

    more_placed : (cs : Children) (i : ℕ) → are_ordered (placed_more printer i cs) ≡ are_ordered cs
    more_placed no_child i = refl
    more_placed (child name t more) i =
        ap₂ (λ (a b : Bool). a && b) (placed_ordered t (i + 1 + length (label_text printer name))) (more_placed more (i + 1 + length (label_text printer name) + length (tree_text printer t)))
