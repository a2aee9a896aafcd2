-- From child to child, with what is left to be chosen.
use Rattle.std.proofs.Common.{◌≡◌, ℕ, suc, ◌+◌, ◌-◌, ◌<◌, ◌≤◌, List, [], ◌∷◌, length, map, filter, drop, cond, Bool, true, false, Option, Some, None, sym, ◌∙◌, ap, ap₂, refl, arith, drop-drop, ◌^◌, length-drop}
use Rattle.jp_model.specs.Steps.{Step}
use Rattle.jp_model.specs.Json.Tree.{Tree, Value, null, boolean, number, string, container, Children, value_of}
use Rattle.jp_model.specs.Meaning.Nodes.{Node, child_of, children, steps_from, steps_in, step_to, children_where}
use Rattle.jp_nodes.specs.Spots.{children_in}
use Rattle.jp_nodes.specs.declared.cursor.Cursor.{Cursor}
use Rattle.jp_nodes.specs.Cursors.{node_of, name_of, nodes_from, nodes_after, children_from, children_after}
use Rattle.jp_nodes.proofs.Cursors.{children_few}
use Rattle.std.proofs.lemmas.List.{length-map}
use Rattle.jp_children.specs.Walks.{IsAt}

-- those from an index on whose step passes
abbrev pub chosen_from : (Step → Bool) → Node → ℕ → Option Cursor → List Node
chosen_from passes parent index next = map (child_of parent) (filter (λ p. passes p.0) (steps_from index (children_from next)))

-- from some index on, the same as all
pub record Left (passes : Step → Bool) (parent : Node) (next : Option Cursor) (all : List Node) : Type 0 where
  pub index : ℕ
  pub at : IsAt parent index next
  pub told : chosen_from passes parent index next ≡ all

pub steps_of_children : (v : Value) → steps_in v ≡ steps_from 0 (children_in v)
steps_of_children null = refl
steps_of_children (boolean b) = refl
steps_of_children (number m e) = refl
steps_of_children (string x) = refl
steps_of_children (container kind children) = refl

pub at_first : (parent : Node) (next : Option Cursor) → nodes_from next ≡ children parent → children_from next ≡ children_in (value_of parent.tree) → IsAt parent 0 next
at_first parent next e f =
    let steps : steps_from 0 (children_from next) ≡ steps_in (value_of parent.tree) = ap (steps_from 0) f ∙ sym (steps_of_children (value_of parent.tree)) in
    record { steps = steps; nodes = e ∙ ap (map (child_of parent)) (sym steps) }

-- the child at an index is the node that its step leads to
pub child_here : (parent : Node) (index : ℕ) (c : Cursor) → IsAt parent index (Some c) → node_of c ≡ child_of parent (step_to index (name_of c), (node_of c).tree)
child_here parent index c at = let e = at.nodes in cc

pub at_next : (parent : Node) (index : ℕ) (c : Cursor) (next : Option Cursor) → IsAt parent index (Some c) → nodes_from next ≡ nodes_after c → children_from next ≡ children_after c → IsAt parent (index + 1) next
at_next parent index c next at e f =
    let all : List (Step × Tree) = steps_in (value_of parent.tree) in
    let behind : steps_from (index + 1) (children_after c) ≡ drop (index + 1) all = ap (drop 1) at.steps ∙ drop-drop 1 index all in
    record {
      steps = ap (steps_from (index + 1)) f ∙ behind;
      nodes = e ∙ (ap (drop 1) at.nodes ∙ ap (λ (x : Children). map (child_of parent) (steps_from (index + 1) x)) (sym f));
    }

-- the child at an index is chosen, or passed over
pub chosen_here : (passes : Step → Bool) (parent : Node) (index : ℕ) (c : Cursor) (next : Option Cursor) → IsAt parent index (Some c) → children_from next ≡ children_after c → passes (step_to index (name_of c)) ≡ true
    → chosen_from passes parent index (Some c) ≡ node_of c ∷ chosen_from passes parent (index + 1) next
chosen_here passes parent index c next at f h =
    let p : Step × Tree = (step_to index (name_of c), (node_of c).tree) in
    ap (λ b. map (child_of parent) (cond b (p ∷ filter (λ q. passes q.0) (steps_from (index + 1) (children_after c))) (filter (λ q. passes q.0) (steps_from (index + 1) (children_after c))))) h
    ∙ ap₂ (λ (n : Node) (x : Children). n ∷ map (child_of parent) (filter (λ q. passes q.0) (steps_from (index + 1) x))) (sym (child_here parent index c at)) (sym f)

pub passed_here : (passes : Step → Bool) (parent : Node) (index : ℕ) (c : Cursor) (next : Option Cursor) → children_from next ≡ children_after c → passes (step_to index (name_of c)) ≡ false
    → chosen_from passes parent index (Some c) ≡ chosen_from passes parent (index + 1) next
passed_here passes parent index c next f h =
    let p : Step × Tree = (step_to index (name_of c), (node_of c).tree) in
    ap (λ b. map (child_of parent) (cond b (p ∷ filter (λ q. passes q.0) (steps_from (index + 1) (children_after c))) (filter (λ q. passes q.0) (steps_from (index + 1) (children_after c))))) h
    ∙ ap (λ (x : Children). map (child_of parent) (filter (λ q. passes q.0) (steps_from (index + 1) x))) (sym f)

-- all are chosen from at the start
pub all_chosen : (passes : Step → Bool) (parent : Node) (next : Option Cursor) → IsAt parent 0 next → chosen_from passes parent 0 next ≡ children_where passes parent
all_chosen passes parent next at = ap (λ ps. map (child_of parent) (filter (λ p. passes p.0) ps)) at.steps

none_left : (i k : ℕ) (l : List (Step × Tree)) → [] ≡ drop i l → drop (i + k) l ≡ []
none_left i k l e = sym (drop-drop k i l) ∙ (ap (drop k) (sym e) ∙ none k)
  where
    none : (k : ℕ) → drop k (let x : List (Step × Tree) = [] in x) ≡ []
    none Prim.Native.Nat.zero = refl
    none (suc k) = refl

-- after the last child there is none
pub at_none : (parent : Node) (i position : ℕ) → IsAt parent i None → i ≤ position → IsAt parent position None
at_none parent i position at h =
    let all : List (Step × Tree) = steps_in (value_of parent.tree) in
    let e : i + (position - i) ≡ position = omega (arith, h) in
    record { steps = sym (ap (λ n. drop n all) (sym e) ∙ none_left i (position - i) all at.steps); nodes = refl }

-- the index of a child, and the next, are small
pub index_fits : (parent : Cursor) (index : ℕ) (c : Cursor) → IsAt (node_of parent) index (Some c) → index + 1 < 2 ^ 32
index_fits parent index c at =
    let n : Node = node_of parent in
    let all : List (Step × Tree) = steps_in (value_of n.tree) in
    let here : suc (length (steps_from (index + 1) (children_after c))) ≡ length (drop index all) = ap length at.steps in
    let cut = length-drop index all in
    let few = children_few parent in
    let count : length (children n) ≡ length all = length-map all (child_of n) in
    omega (arith, here, cut, few, count)
