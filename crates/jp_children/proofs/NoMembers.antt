-- What is no object has no members, what is no array has no elements, and no child of an array has a name.
use Rattle.std.proofs.Common.{◌≡◌, ℕ, zero, suc, ◌+◌, ℤ, List, [], ◌∷◌, map, filter, drop, Bool, true, false, pos, Option, Some, None, ap, refl}
use Rattle.jp_model.specs.declared.Span.{Span}
use Rattle.jp_model.specs.Steps.{Step, index_step}
use Rattle.jp_model.specs.Json.Spelling.{Spells, SpellsValue, SpellsFirst, SpellsMore}
use Rattle.jp_model.specs.Json.Tree.{Name, Tree, node, Value, null, boolean, number, string, container, array, object, Children, no_child, child, span, value_of}
use Rattle.jp_model.specs.Meaning.Nodes.{Node, child_of, steps_from, steps_in, step_to, children_where}
use Rattle.jp_model.specs.Meaning.Slices.{is_name, is_index, named}
use Rattle.jp_nodes.specs.declared.cursor.Cursor.{Cursor}
use Rattle.jp_nodes.specs.Cursors.{node_of, name_of, children_from, children_after}
use Rattle.jp_nodes.specs.Kinds.{kind_of}
use Rattle.jp_nodes.specs.declared.Kind.TheVariants as kinds
use Rattle.jp_children.specs.Walks.{IsAt}

unnamed_more : (line x : List ℕ) (index from to : ℕ) (kids : Children) → SpellsMore line array from to kids → filter (λ (p : Step × Tree). is_name x p.0) (steps_from index kids) ≡ []
unnamed_more line x index from to no_child h = refl
unnamed_more line x index from to (child None t more) h = unnamed_more line x (index + 1) (span t).end to more h.4
unnamed_more line x index from to (child (Some name) t more) h = absurd h.2

unnamed_first : (line x : List ℕ) (from to : ℕ) (kids : Children) → SpellsFirst line array from to kids → filter (λ (p : Step × Tree). is_name x p.0) (steps_from 0 kids) ≡ []
unnamed_first line x from to no_child h = refl
unnamed_first line x from to (child None t more) h = unnamed_more line x 1 (span t).end to more h.4
unnamed_first line x from to (child (Some name) t more) h = absurd h.2

unnamed_in : (line x : List ℕ) (s : Span) (v : Value) → SpellsValue line s v → (kind_of v ≡ kinds.Object → ⊥) → filter (λ (p : Step × Tree). is_name x p.0) (steps_in v) ≡ []
unnamed_in line x s null h other = refl
unnamed_in line x s (boolean b) h other = refl
unnamed_in line x s (number m e) h other = refl
unnamed_in line x s (string points) h other = refl
unnamed_in line x s (container array kids) h other = unnamed_first line x (s.start + 1) s.end kids h.1
unnamed_in line x s (container object kids) h other = absurd (other refl)

-- what is no object has no members
pub no_members : (line x : List ℕ) (n : Node) → Spells line n.tree → (kind_of (value_of n.tree) ≡ kinds.Object → ⊥) → named x n ≡ []
no_members line x n h other = ap (map (child_of n)) (unnamed_tree n.tree h other) where
  unnamed_tree : (t : Tree) → Spells line t → (kind_of (value_of t) ≡ kinds.Object → ⊥) → filter (λ (p : Step × Tree). is_name x p.0) (steps_in (value_of t)) ≡ []
  unnamed_tree (node s v) k o = unnamed_in line x s v k o

unplaced_more : (line : List ℕ) (passes : ℤ → Bool) (index from to : ℕ) (kids : Children) → SpellsMore line object from to kids → filter (λ (p : Step × Tree). is_index passes p.0) (steps_from index kids) ≡ []
unplaced_more line passes index from to no_child h = refl
unplaced_more line passes index from to (child (Some name) t more) h = unplaced_more line passes (index + 1) (span t).end to more h.4
unplaced_more line passes index from to (child None t more) h = absurd h.2

unplaced_first : (line : List ℕ) (passes : ℤ → Bool) (from to : ℕ) (kids : Children) → SpellsFirst line object from to kids → filter (λ (p : Step × Tree). is_index passes p.0) (steps_from 0 kids) ≡ []
unplaced_first line passes from to no_child h = refl
unplaced_first line passes from to (child (Some name) t more) h = unplaced_more line passes 1 (span t).end to more h.4
unplaced_first line passes from to (child None t more) h = absurd h.2

unplaced_in : (line : List ℕ) (passes : ℤ → Bool) (s : Span) (v : Value) → SpellsValue line s v → (kind_of v ≡ kinds.Array → ⊥) → filter (λ (p : Step × Tree). is_index passes p.0) (steps_in v) ≡ []
unplaced_in line passes s null h other = refl
unplaced_in line passes s (boolean b) h other = refl
unplaced_in line passes s (number m e) h other = refl
unplaced_in line passes s (string points) h other = refl
unplaced_in line passes s (container object kids) h other = unplaced_first line passes (s.start + 1) s.end kids h.1
unplaced_in line passes s (container array kids) h other = absurd (other refl)

-- what is no array has no elements
pub no_elements : (line : List ℕ) (passes : ℤ → Bool) (n : Node) → Spells line n.tree → (kind_of (value_of n.tree) ≡ kinds.Array → ⊥) → children_where (is_index passes) n ≡ []
no_elements line passes n h other = ap (map (child_of n)) (unplaced_tree n.tree h other) where
  unplaced_tree : (t : Tree) → Spells line t → (kind_of (value_of t) ≡ kinds.Array → ⊥) → filter (λ (p : Step × Tree). is_index passes p.0) (steps_in (value_of t)) ≡ []
  unplaced_tree (node s v) k o = unplaced_in line passes s v k o

-- a step by an index leads to a child without a name
by_index : (position : ℕ) (o : Option Name) (z : ℤ) → step_to position o ≡ index_step z → o ≡ None
by_index position None z e = refl
by_index position (Some name) z e = absurd (cc)

first_step : (a b : Step) (t u : Tree) (xs ys : List (Step × Tree)) → (a, t) ∷ xs ≡ (b, u) ∷ ys → a ≡ b
first_step a b t u xs ys e =
    let p : Step × Tree = (a, t) in
    let q : Step × Tree = (b, u) in
    let same : p ≡ q = cc in
    ap (λ (r : Step × Tree). r.0) same

nameless_more : (line : List ℕ) (index from to : ℕ) (kids : Children) → SpellsMore line array from to kids → (k position : ℕ) (o : Option Name) (t : Tree) (rest : List (Step × Tree)) → (step_to position o, t) ∷ rest ≡ drop k (steps_from index kids) → o ≡ None
nameless_more line index from to no_child h zero position o t rest e = absurd (cc)
nameless_more line index from to no_child h (suc k) position o t rest e = absurd (cc)
nameless_more line index from to (child (Some name) u more) h k position o t rest e = absurd h.2
nameless_more line index from to (child None u more) h zero position o t rest e = by_index position o (pos index) (first_step (step_to position o) (index_step (pos index)) t u rest (steps_from (index + 1) more) e)
nameless_more line index from to (child None u more) h (suc k) position o t rest e = nameless_more line (index + 1) (span u).end to more h.4 k position o t rest e

nameless_first : (line : List ℕ) (from to : ℕ) (kids : Children) → SpellsFirst line array from to kids → (k position : ℕ) (o : Option Name) (t : Tree) (rest : List (Step × Tree)) → (step_to position o, t) ∷ rest ≡ drop k (steps_from 0 kids) → o ≡ None
nameless_first line from to no_child h zero position o t rest e = absurd (cc)
nameless_first line from to no_child h (suc k) position o t rest e = absurd (cc)
nameless_first line from to (child (Some name) u more) h k position o t rest e = absurd h.2
nameless_first line from to (child None u more) h zero position o t rest e = by_index position o (pos 0) (first_step (step_to position o) (index_step (pos 0)) t u rest (steps_from 1 more) e)
nameless_first line from to (child None u more) h (suc k) position o t rest e = nameless_more line 1 (span u).end to more h.4 k position o t rest e

nameless_in : (line : List ℕ) (s : Span) (v : Value) → SpellsValue line s v → kind_of v ≡ kinds.Array → (k position : ℕ) (o : Option Name) (t : Tree) (rest : List (Step × Tree)) → (step_to position o, t) ∷ rest ≡ drop k (steps_in v) → o ≡ None
nameless_in line s null h is k position o t rest e = absurd (cc)
nameless_in line s (boolean true) h is k position o t rest e = absurd (cc)
nameless_in line s (boolean false) h is k position o t rest e = absurd (cc)
nameless_in line s (number m f) h is k position o t rest e = absurd (cc)
nameless_in line s (string points) h is k position o t rest e = absurd (cc)
nameless_in line s (container object kids) h is k position o t rest e = absurd (cc)
nameless_in line s (container array kids) h is k position o t rest e = nameless_first line (s.start + 1) s.end kids h.1 k position o t rest e

-- no child of an array has a name
pub nameless : (line : List ℕ) (parent : Node) (position : ℕ) (c : Cursor) → Spells line parent.tree → kind_of (value_of parent.tree) ≡ kinds.Array → IsAt parent position (Some c) → name_of c ≡ None
nameless line parent position c h is at = go parent.tree h is at.steps
  where
    go : (t : Tree) → Spells line t → kind_of (value_of t) ≡ kinds.Array → steps_from position (children_from (Some c)) ≡ drop position (steps_in (value_of t)) → name_of c ≡ None
    go (node s v) k o e = nameless_in line s v k o position position (name_of c) (node_of c).tree (steps_from (position + 1) (children_after c)) e
