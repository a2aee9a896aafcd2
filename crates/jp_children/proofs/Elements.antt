-- The element of an index.
use Rattle.std.proofs.Common.{◌≡◌, ◌∙◌, ℕ, zero, suc, ◌+◌, ◌-◌, ◌<◌, ◌≤◌, ℤ, pos, negsuc, nat_abs, ◌<ℤ◌, List, [], ◌∷◌, map, filter, drop, cond, true, false, ◌&&◌, Option, Some, None, sym, ap, refl, arith, ◌⊎◌, inl, inr, leb}
use Rattle.std.specs.Prelude.{option_map, int_lt}
use Rattle.std.proofs.lemmas.Int.{ints}
use Rattle.std.proofs.lemmas.Bool.{cases_lt, le-leb, lt-leb, and_left, and_right}
use Rattle.jp_model.specs.Steps.{Step, name_step, index_step, same_int}
use Rattle.jp_model.specs.Json.Tree.{Tree, Children, no_child, child, Name, value_of, count_children}
use Rattle.jp_model.specs.Meaning.Nodes.{Node, child_of, steps_from, step_to, children_where}
use Rattle.jp_model.specs.Meaning.Slices.{is_index}
use Rattle.jp_nodes.specs.Spots.{children_in}
use Rattle.jp_nodes.specs.declared.cursor.Cursor.{Cursor}
use Rattle.jp_nodes.specs.Cursors.{node_of, name_of, children_from, children_after}
use Rattle.jp_nodes.proofs.Cursors.{children_few}
use Rattle.jp_nodes.proofs.Places.{length-children}
use Rattle.jp_children.specs.Found.{node_list}
use Rattle.jp_children.specs.Walks.{IsAt}
use Rattle.jp_children.proofs.Walks.{steps_of_children, child_here}

int_self : (a : ℕ) → same_int (pos a) (pos a) ≡ true
int_self a = let e : leb a a ≡ true = le-leb a a (omega arith) in ap (λ b. b && b) e

int_other : (a b : ℕ) → (a ≡ b → ⊥) → same_int (pos a) (pos b) ≡ false
int_other a b h =
    elim (cases_lt a b) [
      | inl l ↦ and_right (leb a b) (leb b a) (lt-leb b a l)
      | inr l ↦ and_left (leb a b) (leb b a) (lt-leb a b (omega (arith, h, l)))
    ]

-- none of some children has the index
pub none_at : (z : ℤ) (index : ℕ) (kids : Children) → ((i : ℕ) → index ≤ i → i < index + count_children kids → same_int z (pos i) ≡ false)
    → filter (λ (p : Step × Tree). is_index (same_int z) p.0) (steps_from index kids) ≡ []
none_at z index no_child h = refl
none_at z index (child None t more) h =
    let p : Step × Tree = (index_step (pos index), t) in
    let others : List (Step × Tree) = filter (λ (q : Step × Tree). is_index (same_int z) q.0) (steps_from (index + 1) more) in
    ap (λ b. cond b (p ∷ others) others) (h index (omega arith) (omega arith)) ∙ none_at z (index + 1) more (λ i a b. h i (omega (arith, a)) (omega (arith, b)))
none_at z index (child (Some name) t more) h = none_at z (index + 1) more (λ i a b. h i (omega (arith, a)) (omega (arith, b)))

-- the first, if it is an element
abbrev pub picked : List (Step × Tree) → List (Step × Tree)
picked [] = []
picked (p ∷ ps) = cond (is_index (λ i. true) p.0) (p ∷ []) []

drop_none : (k : ℕ) → picked (drop k []) ≡ []
drop_none zero = refl
drop_none (suc k) = refl

behind_one : (position index : ℕ) (p : Step × Tree) (ps : List (Step × Tree)) → index < position → picked (drop (position - (index + 1)) ps) ≡ picked (drop (position - index) (p ∷ ps))
behind_one position index p ps h = let e : position - index ≡ suc (position - (index + 1)) = omega (arith, h) in ap (λ k. picked (drop k (p ∷ ps))) (sym e)

first_one : (position index : ℕ) (p : Step × Tree) (ps : List (Step × Tree)) → position ≤ index → picked (p ∷ ps) ≡ picked (drop (position - index) (p ∷ ps))
first_one position index p ps h = let e : position - index ≡ 0 = omega (arith, h) in ap (λ k. picked (drop k (p ∷ ps))) (sym e)

pub picked_at : (position index : ℕ) (kids : Children) → index ≤ position → filter (λ (p : Step × Tree). is_index (same_int (pos position)) p.0) (steps_from index kids) ≡ picked (drop (position - index) (steps_from index kids))
picked_at position index no_child h = sym (drop_none (position - index))
picked_at position index (child None t more) h =
    let p : Step × Tree = (index_step (pos index), t) in
    let ps : List (Step × Tree) = steps_from (index + 1) more in
    let others : List (Step × Tree) = filter (λ (q : Step × Tree). is_index (same_int (pos position)) q.0) ps in
    elim (cases_lt index position) [
      | inl l ↦ ap (λ b. cond b (p ∷ others) others) (int_other position index (λ e. omega (arith, e, l))) ∙ (picked_at position (index + 1) more (omega (arith, l)) ∙ behind_one position index p ps l)
      | inr l ↦
          (let e : index ≡ position = omega (arith, h, l) in
          let same : same_int (pos position) (pos index) ≡ true = ap (λ k. same_int (pos position) (pos k)) e ∙ int_self position in
          let none : others ≡ [] = none_at (pos position) (index + 1) more (λ i a b. int_other position i (λ f. omega (arith, e, f, a))) in
          ap (λ b. cond b (p ∷ others) others) same ∙ (ap (λ (l : List (Step × Tree)). p ∷ l) none ∙ first_one position index p ps l))
    ]
picked_at position index (child (Some name) t more) h =
    let p : Step × Tree = (name_step name.points, t) in
    let ps : List (Step × Tree) = steps_from (index + 1) more in
    elim (cases_lt index position) [
      | inl l ↦ picked_at position (index + 1) more (omega (arith, l)) ∙ behind_one position index p ps l
      | inr l ↦ none_at (pos position) (index + 1) more (λ i a b. int_other position i (λ f. omega (arith, f, l, a))) ∙ first_one position index p ps l
    ]

-- what an index selects is the child there, if it is an element
pub picked_child : (parent : Node) (position : ℕ) (next : Option Cursor) → IsAt parent position next
    → children_where (is_index (same_int (pos position))) parent ≡ map (child_of parent) (picked (steps_from position (children_from next)))
picked_child parent position next at =
    let kids : Children = children_in (value_of parent.tree) in
    let all = steps_of_children (value_of parent.tree) in
    let e : position - 0 ≡ position = omega arith in
    ap (λ l. map (child_of parent) (filter (λ (p : Step × Tree). is_index (same_int (pos position)) p.0) l)) all
    ∙ (ap (map (child_of parent)) (picked_at position 0 kids (omega arith)
    ∙ (ap (λ k. picked (drop k (steps_from 0 kids))) e
    ∙ (ap (λ l. picked (drop position l)) (sym all) ∙ ap picked (sym at.steps)))))

pub element_here : (parent : Node) (position : ℕ) (c : Cursor) → IsAt parent position (Some c) → None ≡ option_map (λ (n : Name). n.points) (name_of c) → node_of c ∷ [] ≡ children_where (is_index (same_int (pos position))) parent
element_here parent position c at h =
    sym (picked_child parent position (Some c) at
    ∙ (nameless (name_of c) h ∙ ap (λ (n : Node). n ∷ []) (sym (child_here parent position c at))))
  where
    nameless : (o : Option Name) → None ≡ option_map (λ (n : Name). n.points) o → map (child_of parent) (picked ((step_to position o, (node_of c).tree) ∷ steps_from (position + 1) (children_after c))) ≡ child_of parent (step_to position o, (node_of c).tree) ∷ []
    nameless None h = refl
    nameless (Some n) h = absurd (cc)

pub none_here : (parent : Node) (position : ℕ) → IsAt parent position None → [] ≡ children_where (is_index (same_int (pos position))) parent
none_here parent position at = sym (picked_child parent position None at)

-- the child at an index, if there is one
pub nth_is : (parent : Node) (position : ℕ) (r : Option Cursor) → IsAt parent position r → ((c : Cursor) → r ≡ Some c → name_of c ≡ None) → node_list r ≡ children_where (is_index (same_int (pos position))) parent
nth_is parent position None at h = none_here parent position at
nth_is parent position (Some c) at h = element_here parent position c at (ap (option_map (λ (n : Name). n.points)) (sym (h c refl)))

-- no child has an index below 0 or past 4,294,967,295
pub none_outside : (c : Cursor) (z : ℤ) → (z <ℤ pos 0) ⊎ (pos 4294967295 <ℤ z) → [] ≡ children_where (is_index (same_int z)) (node_of c)
none_outside c z h =
    let n : Node = node_of c in
    let kids : Children = children_in (value_of n.tree) in
    sym (ap (λ l. map (child_of n) (filter (λ (p : Step × Tree). is_index (same_int z) p.0) l)) (steps_of_children (value_of n.tree))
    ∙ ap (map (child_of n)) (none_at z 0 kids (outside z h)))
  where
    outside : (z : ℤ) → (z <ℤ pos 0) ⊎ (pos 4294967295 <ℤ z) → (i : ℕ) → 0 ≤ i → i < 0 + count_children (children_in (value_of (node_of c).tree)) → same_int z (pos i) ≡ false
    outside (negsuc k) h i a b = refl
    outside (pos k) (inl h) i a b = absurd (omega (arith, ints, h))
    outside (pos k) (inr h) i a b =
        let few = children_few c in
        let count = length-children (node_of c) in
        int_other k i (λ e. omega (arith, ints, h, e, b, few, count))

-- an integer that is not below 0 is its distance from 0
pub whole_again : (z : ℤ) → int_lt z (pos 0) ≡ false → pos (nat_abs z) ≡ z
whole_again (pos n) h = refl
whole_again (negsuc n) h = absurd (cc)
