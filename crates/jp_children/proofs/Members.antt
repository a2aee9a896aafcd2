-- The member of a name among children whose names differ.
use Rattle.std.proofs.Common.{◌≡◌, ◌∙◌, ◌+◌, ℕ, List, [], ◌∷◌, map, filter, cond, sym, ap, subst, refl, true, false, Option, Some, None}
use Rattle.std.specs.List.{list_any}
use Rattle.std.proofs.lemmas.Bool.{true≢false, or_parts}
use Rattle.jp_model.specs.Characters.{text_equal}
use Rattle.jp_model.specs.Steps.{Step}
use Rattle.jp_model.specs.Json.Faults.{names, has_repeated, has_duplicate, children_have_duplicate}
use Rattle.jp_model.specs.Json.Tree.{Tree, node, null, boolean, number, string, container, Children, no_child, child, Name, value_of}
use Rattle.jp_model.specs.Meaning.Nodes.{Node, child_of, steps_from, step_to}
use Rattle.jp_model.specs.Meaning.Slices.{is_name}
use Rattle.jp_model.proofs.Seek.{text_same}
use Rattle.jp_nodes.specs.Spots.{children_in}
use Rattle.jp_nodes.specs.declared.cursor.Cursor.{Cursor}
use Rattle.jp_nodes.specs.Cursors.{node_of, name_of, children_from, children_after}
use Rattle.jp_children.specs.Walks.{IsAt}
use Rattle.jp_children.proofs.Walks.{chosen_from, child_here}

-- where no name is this one, no step is
none_named : (x : List ℕ) (index : ℕ) (more : Children) → list_any (text_equal x) (names more) ≡ false → filter (λ (p : Step × Tree). is_name x p.0) (steps_from index more) ≡ []
none_named x index no_child h = refl
none_named x index (child None t more) h = none_named x (index + 1) more h
none_named x index (child (Some name) t more) h =
    let parts = or_parts (text_equal x name.points) (list_any (text_equal x) (names more)) h in
    let p : Step × Tree = (step_to index (Some name), t) in
    let others : List (Step × Tree) = filter (λ (q : Step × Tree). is_name x q.0) (steps_from (index + 1) more) in
    ap (λ b. cond b (p ∷ others) others) parts.0 ∙ none_named x (index + 1) more parts.1

none_after : (x : List ℕ) (index : ℕ) (name : Option Name) (t : Tree) (more : Children) → is_name x (step_to index name) ≡ true → has_repeated (names (child name t more)) ≡ false → list_any (text_equal x) (names more) ≡ false
none_after x index None t more h once = absurd (true≢false (sym h))
none_after x index (Some own) t more h once =
    let same : x ≡ own.points = text_same x own.points h in
    subst (λ (y : List ℕ). list_any (text_equal y) (names more) ≡ false) (sym same) (or_parts (list_any (text_equal own.points) (names more)) (has_repeated (names more)) once).0

-- the member of the name is the only one
pub only_one : (x : List ℕ) (parent : Node) (index : ℕ) (c : Cursor) → IsAt parent index (Some c) → is_name x (step_to index (name_of c)) ≡ true → has_repeated (names (children_from (Some c))) ≡ false
    → chosen_from (is_name x) parent index (Some c) ≡ node_of c ∷ []
only_one x parent index c at h once =
    let p : Step × Tree = (step_to index (name_of c), (node_of c).tree) in
    let others : List (Step × Tree) = filter (λ (q : Step × Tree). is_name x q.0) (steps_from (index + 1) (children_after c)) in
    let none : others ≡ [] = none_named x (index + 1) (children_after c) (none_after x index (name_of c) (node_of c).tree (children_after c) h once) in
    ap (λ b. map (child_of parent) (cond b (p ∷ others) others)) h
    ∙ (ap (λ (l : List (Step × Tree)). child_of parent p ∷ map (child_of parent) l) none ∙ ap (λ (n : Node). n ∷ []) (sym (child_here parent index c at)))

-- the names of the children of a node differ
pub distinct_children : (t : Tree) → has_duplicate t ≡ false → has_repeated (names (children_in (value_of t))) ≡ false
distinct_children (node s null) h = refl
distinct_children (node s (boolean b)) h = refl
distinct_children (node s (number m e)) h = refl
distinct_children (node s (string x)) h = refl
distinct_children (node s (container kind children)) h = (or_parts (has_repeated (names children)) (children_have_duplicate children) h).0

-- and those after the first one
pub distinct_behind : (name : Option Name) (t : Tree) (more : Children) → has_repeated (names (child name t more)) ≡ false → has_repeated (names more) ≡ false
distinct_behind None t more h = h
distinct_behind (Some name) t more h = (or_parts (list_any (text_equal name.points) (names more)) (has_repeated (names more)) h).1
