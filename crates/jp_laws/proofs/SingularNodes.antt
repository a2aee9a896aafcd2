-- A singular query selects at most one node.
use Rattle.std.proofs.Common.{◌≡◌, ℕ, ◌+◌, ◌≤◌, List, [], ◌∷◌, ◌++◌, length, filter, Bool, true, false, not, cond, ◌==◌, bytes_eq, Option, Some, None, is_some, refl, sym, subst, ◌∙◌, arith, append-nil}
use Rattle.std.specs.List.{list_any}
use Rattle.std.proofs.lemmas.Bool.{or_parts}
use Rattle.std.proofs.lemmas.List.{length-map}
use Rattle.std.proofs.lemmas.Slice.Eq.{bytes_eq-Decides}
use Rattle.jp_model.proofs.Guard.{query_is}
use Rattle.jp_model.specs.Json.Faults.{names, has_repeated, has_duplicate, value_has_duplicate, children_have_duplicate}
use Rattle.jp_model.specs.Json.Tree.{Tree, node, Value, null, boolean, number, string, container, Children, no_child, child, value_of}
use Rattle.jp_model.specs.Meaning.Functions.{single_value}
use Rattle.jp_model.specs.Meaning.Nodes.{Node, root_node, child_of, child_count, steps_from, steps_in}
use Rattle.jp_model.specs.Meaning.Slices.{is_name, named, normal}
use Rattle.jp_model.specs.Meaning.Selecting.{nodes, selected, select, truth, compared_value}
use Rattle.jp_model.specs.Query.Singular.{singular_steps, steps_query, step_selector}
use Rattle.jp_model.specs.Query.Syntax.{root, current, Segments, no_selectors, selector, Path, path, exists, single}
use Rattle.jp_model.specs.Query.Typing.{is_singular_path}
use Rattle.jp_model.specs.Steps.{Step, name_step, index_step}
use Rattle.jp_laws.proofs.Distinct.{IsDistinct, nodes_distinct}
use Rattle.jp_laws.proofs.Reached.{Each}
use Rattle.jp_laws.proofs.SliceLoops.{one_at_most}

abbrev has_name : List ℕ → Step × Tree → Bool
has_name x p = is_name x p.0

none_named : (x : List ℕ) (p : ℕ) (cs : Children) → list_any (bytes_eq x) (names cs) ≡ false → filter (has_name x) (steps_from p cs) ≡ []
none_named x p no_child h = refl
none_named x p (child None t more) h = none_named x (p + 1) more h
none_named x p (child (Some name) t more) h = let q = or_parts (bytes_eq x name.points) (list_any (bytes_eq x) (names more)) h in rw q.0 (none_named x (p + 1) more q.1)

one_named : (x : List ℕ) (p : ℕ) (cs : Children) → has_repeated (names cs) ≡ false → length (filter (has_name x) (steps_from p cs)) ≤ 1
one_named x p no_child h = omega arith
one_named x p (child None t more) h = one_named x (p + 1) more h
one_named x p (child (Some name) t more) h = step (bytes_eq x name.points) refl (one_named x (p + 1) more q.1)
  where
    q : (list_any (bytes_eq name.points) (names more) ≡ false) × (has_repeated (names more) ≡ false)
    q = or_parts _ _ h

    step : (b : Bool) → bytes_eq x name.points ≡ b → length (filter (has_name x) (steps_from (p + 1) more)) ≤ 1
        → length (cond b ((name_step name.points, t) ∷ filter (has_name x) (steps_from (p + 1) more)) (filter (has_name x) (steps_from (p + 1) more))) ≤ 1
    step true e again =
        let none : filter (has_name x) (steps_from (p + 1) more) ≡ [] = none_named x (p + 1) more (subst (λ y. list_any (bytes_eq y) (names more) ≡ false) (sym ((bytes_eq-Decides x name.points).0 e)) q.0) in
        rw none (omega arith)
    step false e again = again

named_in : (x : List ℕ) (v : Value) → value_has_duplicate v ≡ false → length (filter (has_name x) (steps_in v)) ≤ 1
named_in x null h = omega arith
named_in x (boolean b) h = omega arith
named_in x (number m e) h = omega arith
named_in x (string y) h = omega arith
named_in x (container kind cs) h = one_named x 0 cs (or_parts (has_repeated (names cs)) (children_have_duplicate cs) h).0

named_tree : (x : List ℕ) (t : Tree) → has_duplicate t ≡ false → length (filter (has_name x) (steps_in (value_of t))) ≤ 1
named_tree x (node s v) h = named_in x v h

few_named : (x : List ℕ) (n : Node) → IsDistinct n → length (named x n) ≤ 1
few_named x n h = rw (length-map (filter (has_name x) (steps_in (value_of n.tree))) (child_of n)) (named_tree x n.tree h)

pub few_selected : (s : Step) (n : Node) (t : Tree) → IsDistinct n → length (select (step_selector s) n t) ≤ 1
few_selected (name_step x) n t h = few_named x n h
few_selected (index_step i) n t h = one_at_most n (normal (child_count n) i)

few_nodes : (steps : List Step) (list : List Node) (t : Tree) → length list ≤ 1 → Each IsDistinct list → length (nodes (steps_query steps) list t) ≤ 1
few_nodes [] list t l d = l
few_nodes (s ∷ ss) [] t l d = few_nodes ss [] t (omega arith) tt
few_nodes (s ∷ ss) (n ∷ []) t l d =
    let one : selected (selector (step_selector s) no_selectors) n t ++ [] ≡ select (step_selector s) n t = append-nil (select (step_selector s) n t ++ []) ∙ append-nil (select (step_selector s) n t) in
    let less : length (selected (selector (step_selector s) no_selectors) n t ++ []) ≤ 1 = rw one (few_selected s n t d.0) in
    few_nodes ss (selected (selector (step_selector s) no_selectors) n t ++ []) t less (nodes_distinct (steps_query (s ∷ [])) (n ∷ []) t d)
few_nodes (s ∷ ss) (n ∷ m ∷ list) t l d = absurd (omega arith)

pub one_selected : (q : Segments) (n : Node) (t : Tree) → is_some (singular_steps q) ≡ true → has_duplicate n.tree ≡ false → length (nodes q (n ∷ []) t) ≤ 1
one_selected q n t h d = pick (singular_steps q) refl h
  where
    pick : (o : Option (List Step)) → singular_steps q ≡ o → is_some o ≡ true → length (nodes q (n ∷ []) t) ≤ 1
    pick None e k = absurd (cc)
    pick (Some steps) e k = subst (λ r. length (nodes r (n ∷ []) t) ≤ 1) (sym (query_is q steps e)) (few_nodes steps (n ∷ []) t (omega arith) (d, tt))

tests_value : (list : List Node) → length list ≤ 1 → not (length list == 0) ≡ is_some (single_value list)
tests_value [] h = refl
tests_value (n ∷ []) h = refl
tests_value (n ∷ m ∷ list) h = absurd (omega arith)

pub test_is_value : (p : Path) (n : Node) (t : Tree) → is_singular_path p ≡ true → has_duplicate n.tree ≡ false → has_duplicate t ≡ false → truth (exists p) n t ≡ is_some (compared_value (single p) n t)
test_is_value (path root ss) n t h d e = tests_value (nodes ss (root_node t ∷ []) t) (one_selected ss (root_node t) t h e)
test_is_value (path current ss) n t h d e = tests_value (nodes ss (n ∷ []) t) (one_selected ss n t h d)
