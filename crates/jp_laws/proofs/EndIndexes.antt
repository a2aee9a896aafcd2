-- What an index selector selects that counts from the end, or is out of range.
use Rattle.std.proofs.Common.{◌≡◌, ℕ, ◌+◌, ◌-◌, ◌<◌, ◌≤◌, ℤ, pos, negsuc, ◌+ℤ◌, List, [], map, filter, length, false, Some, None, refl, sym, ap, ◌∙◌, arith}
use Rattle.std.proofs.lemmas.Bool.{and_left, lt-leb}
use Rattle.std.proofs.lemmas.Int.{ints}
use Rattle.jp_model.specs.Json.Tree.{Tree, Value, null, boolean, number, string, container, Children, no_child, child, value_of}
use Rattle.jp_model.specs.Meaning.Nodes.{Node, child_of, child_count, children_where, steps_from, steps_in}
use Rattle.jp_model.specs.Meaning.Slices.{is_index, indexed, normal}
use Rattle.jp_model.specs.Steps.{Step, same_int}
use Rattle.jp_laws.proofs.SliceLoops.{indexed_is}

abbrev by_index : ℤ → List (Step × Tree) → List (Step × Tree)
by_index i ps = filter (λ p. is_index (same_int i) p.0) ps

normal_negative : (len k : ℕ) → k < len → normal len (negsuc k) ≡ pos (len - (k + 1))
normal_negative len k h = let e : pos len +ℤ negsuc k ≡ pos (len - (k + 1)) = omega (arith, ints) in e

normal_before : (len k : ℕ) → len ≤ k → normal len (negsuc k) ≡ negsuc (k - len)
normal_before len k h = let e : pos len +ℤ negsuc k ≡ negsuc (k - len) = omega (arith, ints) in e

none_negative : (j p : ℕ) (cs : Children) → by_index (negsuc j) (steps_from p cs) ≡ []
none_negative j p no_child = refl
none_negative j p (child None t more) = none_negative j (p + 1) more
none_negative j p (child (Some name) t more) = none_negative j (p + 1) more

none_past : (k p : ℕ) (cs : Children) → p + length (steps_from p cs) ≤ k → by_index (pos k) (steps_from p cs) ≡ []
none_past k p no_child h = refl
none_past k p (child None t more) h = rw (apart k p (omega arith)) (none_past k (p + 1) more (omega arith))
  where
    apart : (a b : ℕ) → b < a → same_int (pos a) (pos b) ≡ false
    apart a b l = and_left _ _ (lt-leb a b l)
none_past k p (child (Some name) t more) h = none_past k (p + 1) more (omega arith)

value_negative : (j : ℕ) (v : Value) → by_index (negsuc j) (steps_in v) ≡ []
value_negative j null = refl
value_negative j (boolean b) = refl
value_negative j (number m e) = refl
value_negative j (string x) = refl
value_negative j (container kind cs) = none_negative j 0 cs

value_past : (k : ℕ) (v : Value) → length (steps_in v) ≤ k → by_index (pos k) (steps_in v) ≡ []
value_past k null h = refl
value_past k (boolean b) h = refl
value_past k (number m e) h = refl
value_past k (string x) h = refl
value_past k (container kind cs) h = none_past k 0 cs (omega arith)

abbrev at : Node → ℤ → List Node
at n i = children_where (is_index (same_int i)) n

pub from_the_end : (k : ℕ) (n : Node) → k < child_count n → indexed (negsuc k) n ≡ indexed (pos (child_count n - (k + 1))) n
from_the_end k n h = ap (at n) (normal_negative (child_count n) k h) ∙ indexed_is n (child_count n - (k + 1))

pub before_the_front : (k : ℕ) (n : Node) → child_count n ≤ k → indexed (negsuc k) n ≡ []
before_the_front k n h = ap (at n) (normal_before (child_count n) k h) ∙ ap (map (child_of n)) (value_negative (k - child_count n) (value_of n.tree))

pub past_the_end : (k : ℕ) (n : Node) → child_count n ≤ k → indexed (pos k) n ≡ []
past_the_end k n h = sym (indexed_is n k) ∙ ap (map (child_of n)) (value_past k (value_of n.tree) h)
