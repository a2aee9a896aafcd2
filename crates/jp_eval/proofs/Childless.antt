-- Of a node without children nothing is selected.
use Rattle.std.proofs.Common.{◌≡◌, ◌++◌, List, [], ◌∷◌, pos, Bool, true, map, filter, reverse, ap, ap₂, refl, cond}
use Rattle.std.specs.Prelude.{Option, Some, None, false, is_some, int_lt, unwrap_or}
use Rattle.jp_model.specs.Json.Tree.{Tree, value_of}
use Rattle.jp_model.specs.Meaning.Nodes.{Node, children, child_of, child_count, children_where, steps_in}
use Rattle.jp_model.specs.Meaning.Selecting.{selected, select, truth}
use Rattle.jp_model.specs.Meaning.Slices.{is_name, is_index, normal, upward, downward}
use Rattle.jp_model.specs.Query.Syntax.{Selector, name_selector, wildcard_selector, index_selector, slice_selector, filter_selector, Selectors, no_selectors, selector}
use Rattle.jp_model.specs.Steps.{Step, same_int}
use Rattle.jp_nodes.specs.declared.cursor.Cursor.{Cursor}
use Rattle.jp_nodes.specs.Cursors.{nodes_from}

pub none_first : (first : Option Cursor) → is_some first ≡ false → nodes_from first ≡ []
none_first None e = refl
none_first (Some c) e = absurd (cc)

none_mapped : {A B : Type 0} (f : A → B) (xs : List A) → map f xs ≡ [] → xs ≡ []
none_mapped f [] e = refl
none_mapped f (x ∷ xs) e = absurd (cc)

none_where : (passes : Step → Bool) (n : Node) → steps_in (value_of n.tree) ≡ [] → children_where passes n ≡ []
none_where passes n e = ap (λ (l : List (Step × Tree)). map (child_of n) (filter (λ (p : Step × Tree). passes p.0) l)) e

-- a slice upward, one downward, or none
none_either : (up down : Bool) (xs ys : List Node) → xs ≡ [] → ys ≡ [] → cond up xs (cond down (reverse ys) []) ≡ []
none_either true down xs ys e f = e
none_either false true xs ys e f = ap (λ (l : List Node). reverse l) f
none_either false false xs ys e f = refl

none_of : (s : Selector) (n : Node) (t : Tree) → children n ≡ [] → select s n t ≡ []
none_of s n t e = by s (none_mapped (child_of n) (steps_in (value_of n.tree)) e)
  where
    by : (s : Selector) → steps_in (value_of n.tree) ≡ [] → select s n t ≡ []
    by (name_selector x) h = none_where (is_name x) n h
    by wildcard_selector h = e
    by (index_selector i) h = none_where (is_index (same_int (normal (child_count n) i))) n h
    by (slice_selector first last step) h =
        none_either (int_lt (pos 0) (unwrap_or step (pos 1))) (int_lt (unwrap_or step (pos 1)) (pos 0)) _ _
        (none_where (is_index (upward (child_count n) first last (unwrap_or step (pos 1)))) n h) (none_where (is_index (downward (child_count n) first last (unwrap_or step (pos 1)))) n h)
    by (filter_selector l) h = ap (filter (λ c. truth l c t)) e

pub none_selected : (ss : Selectors) (n : Node) (t : Tree) → children n ≡ [] → selected ss n t ≡ []
none_selected no_selectors n t e = refl
none_selected (selector s ss) n t e = ap₂ (λ (xs ys : List Node). xs ++ ys) (none_of s n t e) (none_selected ss n t e)
