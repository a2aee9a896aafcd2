-- The elements of a slice by its bounds.
use Rattle.std.proofs.Common.{◌≡◌, ◌∙◌, ℕ, ◌+◌, ◌<◌, ◌≤◌, ◌^◌, ℤ, pos, ◌+ℤ◌, List, [], ◌∷◌, length, map, filter, cond, Bool, true, false, ◌&&◌, Option, Some, None, sym, ap, ap₂, refl, arith, unwrap_or}
use Rattle.std.specs.Prelude.{int_le, int_lt}
use Rattle.std.specs.Int.{int_min, int_max}
use Rattle.std.proofs.lemmas.Int.{ints, clamps}
use Rattle.jp_model.specs.Steps.{Step, index_step}
use Rattle.jp_model.specs.Json.Tree.{Tree, Children, no_child, child, value_of, count_children}
use Rattle.jp_model.specs.Meaning.Nodes.{Node, child_of, children, child_count, steps_from, steps_in, children_where}
use Rattle.jp_model.specs.Meaning.Slices.{is_index, normal, clamped, on_stride, upward}
use Rattle.jp_nodes.specs.Spots.{children_in}
use Rattle.jp_nodes.specs.declared.cursor.Cursor.{Cursor}
use Rattle.jp_nodes.specs.Cursors.{node_of, children_from}
use Rattle.jp_nodes.proofs.Cursors.{children_few}
use Rattle.jp_nodes.proofs.Places.{length-children}
use Rattle.std.proofs.lemmas.List.{length-map}
use Rattle.jp_children.specs.Walks.{rises}
use Rattle.jp_children.proofs.Walks.{chosen_from, steps_of_children}

-- no index from here on passes
none_passing : (test : ℤ → Bool) (index : ℕ) (kids : Children) → ((i : ℕ) → index ≤ i → test (pos i) ≡ false) → filter (λ (p : Step × Tree). is_index test p.0) (steps_from index kids) ≡ []
none_passing test index no_child h = refl
none_passing test index (child None t more) h =
    let p : Step × Tree = (index_step (pos index), t) in
    let others : List (Step × Tree) = filter (λ (q : Step × Tree). is_index test q.0) (steps_from (index + 1) more) in
    ap (λ b. cond b (p ∷ others) others) (h index (omega arith)) ∙ none_passing test (index + 1) more (λ i a. h i (omega (arith, a)))
none_passing test index (child (Some name) t more) h = none_passing test (index + 1) more (λ i a. h i (omega (arith, a)))

pub none_chosen : (test : ℤ → Bool) (parent : Node) (index : ℕ) (next : Option Cursor) → ((i : ℕ) → index ≤ i → test (pos i) ≡ false) → chosen_from (is_index test) parent index next ≡ []
none_chosen test parent index next h = ap (map (child_of parent)) (none_passing test index (children_from next) h)

-- two tests that agree on the indexes of some children
same_passing : (a b : ℤ → Bool) (index : ℕ) (kids : Children) → ((i : ℕ) → index ≤ i → i < index + count_children kids → a (pos i) ≡ b (pos i))
    → filter (λ (p : Step × Tree). is_index a p.0) (steps_from index kids) ≡ filter (λ (p : Step × Tree). is_index b p.0) (steps_from index kids)
same_passing a b index no_child h = refl
same_passing a b index (child None t more) h =
    let p : Step × Tree = (index_step (pos index), t) in
    let inner = same_passing a b (index + 1) more (λ i l r. h i (omega (arith, l)) (omega (arith, r))) in
    ap₂ (λ (x : Bool) (l : List (Step × Tree)). cond x (p ∷ l) l) (h index (omega arith) (omega arith)) inner
same_passing a b index (child (Some name) t more) h = same_passing a b (index + 1) more (λ i l r. h i (omega (arith, l)) (omega (arith, r)))

pub same_chosen : (a b : ℤ → Bool) (n : Node) → ((i : ℕ) → i < child_count n → a (pos i) ≡ b (pos i)) → children_where (is_index a) n ≡ children_where (is_index b) n
same_chosen a b n h =
    let steps = steps_of_children (value_of n.tree) in
    let kids : Children = children_in (value_of n.tree) in
    let count : length (children n) ≡ child_count n = length-map (steps_in (value_of n.tree)) (child_of n) in
    let few = length-children n in
    ap (λ (l : List (Step × Tree)). map (child_of n) (filter (λ (p : Step × Tree). is_index a p.0) l)) steps
    ∙ (ap (map (child_of n)) (same_passing a b 0 kids (λ i l r. h i (omega (arith, r, few, count))))
    ∙ sym (ap (λ (l : List (Step × Tree)). map (child_of n) (filter (λ (p : Step × Tree). is_index b p.0) l)) steps))

-- ---- the bounds of a step above 0

-- one bound is below an index where the other is
same_test : (p q : Bool) → (p ≡ true → q ≡ false → ⊥) → (p ≡ false → q ≡ true → ⊥) → p ≡ q
same_test true true f g = refl
same_test true false f g = absurd (f refl refl)
same_test false true f g = absurd (g refl refl)
same_test false false f g = refl

same_low : (x i len : ℤ) → int_lt i len ≡ true → int_le (int_max x (pos 0)) i ≡ int_le (int_min (int_max x (pos 0)) len) i
same_low x i len h = same_test (int_le (int_max x (pos 0)) i) (int_le (int_min (int_max x (pos 0)) len) i) (λ a b. omega (arith, ints, clamps, h, a, b)) (λ a b. omega (arith, ints, clamps, h, a, b))

low_is : (x i len : ℤ) → int_lt i len ≡ true → int_le (int_max x (pos 0)) i ≡ true → int_max x (pos 0) ≡ int_min (int_max x (pos 0)) len
low_is x i len h a = omega (arith, ints, clamps, h, a)

same_high : (y : ℤ) (i : ℕ) (len : ℤ) → int_lt (pos i) len ≡ true → int_lt (pos i) y ≡ int_lt (pos i) (int_min (int_max y (pos 0)) len)
same_high y i len h = same_test (int_lt (pos i) y) (int_lt (pos i) (int_min (int_max y (pos 0)) len)) (λ a b. omega (arith, ints, clamps, h, a, b)) (λ a b. omega (arith, ints, clamps, h, a, b))

-- without an upper bound each index is below it
last_is : (len i : ℕ) (last : Option ℤ) → len < 2 ^ 32 → int_lt (pos i) (pos len) ≡ true → int_lt (pos i) (normal len (unwrap_or last (pos 9223372036854775807))) ≡ int_lt (pos i) (normal len (unwrap_or last (pos len)))
last_is len i (Some z) few h = refl
last_is len i None few h = by (int_lt (pos len) (pos 0)) refl
  where
    by : (b : Bool) → int_lt (pos len) (pos 0) ≡ b → int_lt (pos i) (pos 9223372036854775807) ≡ int_lt (pos i) (cond b (pos len +ℤ pos len) (pos len))
    by true e = absurd (omega (arith, ints, e))
    by false e = same_test (int_lt (pos i) (pos 9223372036854775807)) (int_lt (pos i) (pos len)) (λ a b. omega (arith, ints, h, a, b)) (λ a b. omega (arith, ints, h, few, a, b))

both : (a b s c d u : Bool) → a ≡ c → (a ≡ true → s ≡ u) → b ≡ d → (a && b && s) ≡ (c && d && u)
both true b s c d u e f g = ap (λ x. b && x) (f refl) ∙ (ap (λ x. x && u) g ∙ ap (λ x. x && d && u) e)
both false b s c d u e f g = ap (λ x. x && d && u) e

-- the bounds as they are kept select what the slice selects
rise_same : (len i : ℕ) (first last : Option ℤ) (low high step : ℤ) → i < len → len < 2 ^ 32 → low ≡ int_max (normal len (unwrap_or first (pos 0))) (pos 0)
    → high ≡ normal len (unwrap_or last (pos 9223372036854775807)) → (int_le low (pos i) && int_lt (pos i) high && on_stride low step (pos i)) ≡ upward len first last step (pos i)
rise_same len i first last low high step small few el eh =
    let x : ℤ = normal len (unwrap_or first (pos 0)) in
    let y : ℤ = normal len (unwrap_or last (pos len)) in
    let h : int_lt (pos i) (pos len) ≡ true = same_test (int_lt (pos i) (pos len)) true (λ a b. absurd (cc)) (λ a b. omega (arith, ints, a, small)) in
    let L : ℤ = clamped (pos 0) (pos len) x in
    let le : int_le low (pos i) ≡ int_le L (pos i) = ap (λ (z : ℤ). int_le z (pos i)) el ∙ same_low x (pos i) (pos len) h in
    let lt : int_lt (pos i) high ≡ int_lt (pos i) (clamped (pos 0) (pos len) y) = ap (int_lt (pos i)) eh ∙ (last_is len i last few h ∙ same_high y i (pos len) h) in
    both (int_le low (pos i)) (int_lt (pos i) high) (on_stride low step (pos i)) (int_le L (pos i)) (int_lt (pos i) (clamped (pos 0) (pos len) y)) (on_stride L step (pos i)) le
    (λ a. ap (λ (z : ℤ). on_stride z step (pos i)) (el ∙ low_is x (pos i) (pos len) h (sym (ap (λ (z : ℤ). int_le z (pos i)) el) ∙ a))) lt

pub rising_is : (c : Cursor) (low high : ℤ) (first last : Option ℤ) (step : ℤ) → low ≡ int_max (normal (child_count (node_of c)) (unwrap_or first (pos 0))) (pos 0)
    → high ≡ normal (child_count (node_of c)) (unwrap_or last (pos 9223372036854775807))
    → children_where (is_index (rises low high step)) (node_of c) ≡ children_where (is_index (upward (child_count (node_of c)) first last step)) (node_of c)
rising_is c low high first last step el eh =
    let n : Node = node_of c in
    let few = children_few c in
    let count : length (children n) ≡ child_count n = length-map (steps_in (value_of n.tree)) (child_of n) in
    same_chosen (rises low high step) (upward (child_count n) first last step) n
    (λ i h. rise_same (child_count n) i first last low high step h (omega (arith, few, count)) el eh)

pub none_risen : (low high step : ℤ) (parent : Node) (index : ℕ) (next : Option Cursor) → int_le high (pos index) ≡ true → chosen_from (is_index (rises low high step)) parent index next ≡ []
none_risen low high step parent index next h = none_chosen (rises low high step) parent index next (λ i a. none (int_le low (pos i)) (int_lt (pos i) high) (on_stride low step (pos i)) (same_test (int_lt (pos i) high) false (λ x y. omega (arith, ints, h, a, x)) (λ x y. absurd (cc))))
  where
    none : (a b s : Bool) → b ≡ false → (a && b && s) ≡ false
    none true b s e = ap (λ x. x && s) e
    none false b s e = refl
