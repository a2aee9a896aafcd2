-- A tree whose nodes have children at different locations has no equal names.
use Rattle.std.proofs.Common.{◌≡◌, ◌≢◌, ℕ, ◌+◌, List, [], ◌∷◌, ◌++◌, map, Bool, true, false, ◌||◌, bytes_eq, Some, None, inl, inr, refl, ap}
use Rattle.std.specs.List.{list_any}
use Rattle.std.proofs.lemmas.Bool.{cases_Bool, or_parts}
use Rattle.std.proofs.lemmas.List.{same_from_push}
use Rattle.std.proofs.lemmas.Slice.Eq.{bytes_eq-Decides}
use Rattle.jp_model.specs.Json.Faults.{names, has_repeated, has_duplicate, value_has_duplicate, children_have_duplicate}
use Rattle.jp_model.specs.Json.Tree.{Tree, node, Value, null, boolean, number, string, container, Children, no_child, child, value_of}
use Rattle.jp_model.specs.Meaning.Nodes.{Node, root_node, child_of, children, step_to, steps_from, steps_in}
use Rattle.jp_model.specs.Steps.{Step, name_step}
use Rattle.jp_laws.specs.Nodes.{IsAmong, first_of, later_of, IsWithin, itself, child_of_one, IsElsewhere, AreApart}
use Rattle.jp_laws.proofs.Descendants.{IsOther, each_among, first_is_other}
use Rattle.jp_laws.proofs.Distinct.{IsDistinct, children_distinct}

abbrev kids : Node → ℕ → Children → List Node
kids n p cs = map (child_of n) (steps_from p cs)

neither : (a b : Bool) → a ≡ false → b ≡ false → (a || b) ≡ false
neither true b f g = f
neither false b f g = g

pub within_within : (a b : Node) {c : Node} → IsWithin a b → IsWithin b c → IsWithin a c
within_within a b w itself = w
within_within a b w (child_of_one v i) = child_of_one (within_within a b w v) i

-- ---- children at different locations have no two names that are equal

different : (n : Node) (x y : List ℕ) → (n.location ++ name_step x ∷ []) ≢ (n.location ++ name_step y ∷ []) → bytes_eq x y ≡ false
different n x y h = elim (cases_Bool (bytes_eq x y)) [
  | inl same ↦ absurd (h (ap (λ z. n.location ++ name_step z ∷ []) ((bytes_eq-Decides x y).0 same)))
  | inr other ↦ other
]

elsewhere_names : (n : Node) (x : List ℕ) (p : ℕ) (cs : Children) → IsElsewhere (n.location ++ name_step x ∷ []) (kids n p cs) → list_any (bytes_eq x) (names cs) ≡ false
elsewhere_names n x p no_child h = refl
elsewhere_names n x p (child None t more) h = elsewhere_names n x (p + 1) more h.1
elsewhere_names n x p (child (Some name) t more) h = neither _ _ (different n x name.points h.0) (elsewhere_names n x (p + 1) more h.1)

apart_names : (n : Node) (p : ℕ) (cs : Children) → AreApart (kids n p cs) → has_repeated (names cs) ≡ false
apart_names n p no_child h = refl
apart_names n p (child None t more) h = apart_names n (p + 1) more h.1
apart_names n p (child (Some name) t more) h = neither _ _ (elsewhere_names n name.points (p + 1) more h.0) (apart_names n (p + 1) more h.1)

abbrev AllApart : Node → Type 0
AllApart r = (n : Node) → IsWithin r n → AreApart (children n)

mutual
  tree_without : (l : List Step) (t : Tree) → AllApart (record { location = l; tree = t }) → has_duplicate t ≡ false
  tree_without l (node s v) h = value_without (record { location = l; tree = node s v }) v (h (record { location = l; tree = node s v }) itself)
      (λ c i n w. h n (within_within (record { location = l; tree = node s v }) c (child_of_one itself i) w))

  value_without : (r : Node) (v : Value) → AreApart (map (child_of r) (steps_in v)) → ((c : Node) → IsAmong c (map (child_of r) (steps_in v)) → AllApart c) → value_has_duplicate v ≡ false
  value_without r null own below = refl
  value_without r (boolean b) own below = refl
  value_without r (number m e) own below = refl
  value_without r (string x) own below = refl
  value_without r (container kind cs) own below = neither _ _ (apart_names r 0 cs own) (children_without r 0 cs below)

  children_without : (r : Node) (p : ℕ) (cs : Children) → ((c : Node) → IsAmong c (kids r p cs) → AllApart c) → children_have_duplicate cs ≡ false
  children_without r p no_child below = refl
  children_without r p (child name t more) below =
      neither _ _ (tree_without (r.location ++ step_to p name ∷ []) t (below (record { location = r.location ++ step_to p name ∷ []; tree = t }) first_of))
      (children_without r (p + 1) more (λ c i. below c (later_of i)))

pub without_equal_names : (t : Tree) → AllApart (root_node t) → has_duplicate t ≡ false
without_equal_names t h = tree_without [] t h

-- ---- and where names are different, so are the locations

other_elsewhere : (n : Node) (s : Step) (p : ℕ) (cs : Children) → IsOther s p cs → IsElsewhere (n.location ++ s ∷ []) (kids n p cs)
other_elsewhere n s p no_child h = tt
other_elsewhere n s p (child name t more) h = ((λ e. h.0 (same_from_push n.location n.location s (step_to p name) e).1), other_elsewhere n s (p + 1) more h.1)

kids_apart : (n : Node) (p : ℕ) (cs : Children) → has_repeated (names cs) ≡ false → AreApart (kids n p cs)
kids_apart n p no_child h = tt
kids_apart n p (child name t more) h = let o = first_is_other p name t more h in (other_elsewhere n (step_to p name) (p + 1) more o.0, kids_apart n (p + 1) more o.1)

value_apart : (n : Node) (v : Value) → value_has_duplicate v ≡ false → AreApart (map (child_of n) (steps_in v))
value_apart n null h = tt
value_apart n (boolean b) h = tt
value_apart n (number m e) h = tt
value_apart n (string x) h = tt
value_apart n (container kind cs) h = kids_apart n 0 cs (or_parts (has_repeated (names cs)) (children_have_duplicate cs) h).0

tree_apart : (n : Node) (t : Tree) → has_duplicate t ≡ false → AreApart (map (child_of n) (steps_in (value_of t)))
tree_apart n (node s v) h = value_apart n v h

within_distinct : (r n : Node) → has_duplicate r.tree ≡ false → IsWithin r n → has_duplicate n.tree ≡ false
within_distinct r n h itself = h
within_distinct r n h (child_of_one {m = m} w i) = each_among IsDistinct n (children m) (children_distinct m (within_distinct r m h w)) i

pub with_equal_names : (t : Tree) (n : Node) → IsWithin (root_node t) n → (AreApart (children n) → ⊥) → has_duplicate t ≡ true
with_equal_names t n w h = elim (cases_Bool (has_duplicate t)) [
  | inl has ↦ has
  | inr none ↦ absurd (h (tree_apart n n.tree (within_distinct (root_node t) n none w)))
]
