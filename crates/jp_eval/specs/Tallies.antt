-- What a frame has once some nodes are added.
use Rattle.std.specs.Prelude.{◌≡◌, ℕ, ◌+◌, Bool, true, false, cond, ◌==◌, List, [], ◌∷◌, ◌++◌, map, nat_lt, Option, Some, None, slice_get}
use Rattle.jp_model.specs.Meaning.Nodes.{Node, root_node, subtree}
use Rattle.jp_nodes.specs.declared.cursor.Cursor.{Cursor}
use Rattle.jp_nodes.specs.Cursors.{node_of}
use Rattle.jp_nodes.specs.Tapes.{spelled}
use Rattle.jp_eval.specs.Found.{IsRange}
use Rattle.jp_eval.specs.declared.frame.Frame.{Frame}
use Rattle.jp_eval.specs.declared.sums.Sum.{Sum}
use Rattle.jp_eval.specs.declared.sums.Known.{Known}
use Rattle.jp_eval.specs.declared.sums.Known.TheVariants as knowns

-- how many nodes there are, and the last of them
pub record Total : Type 0 where
  pub count : ℕ
  pub last : Option Node

-- with some nodes more
abbrev pub plus : Total → List Node → Total
plus t [] = t
plus t (n ∷ ns) = plus (record { count = t.count + 1; last = Some n }) ns

-- what a sum tells of a line
abbrev pub total_of : List ℕ → Sum → Total
total_of line sum = record { count = sum.count; last = slice_get (subtree (root_node (spelled line))) sum.last }

-- no node: the root stands for the last
abbrev pub none_in : List ℕ → Total
none_in line = record { count = 0; last = slice_get (subtree (root_node (spelled line))) 0 }

-- where `most` are counted, no more matter
abbrev pub cut : ℕ → Total → Option Total
cut most t = cond (nat_lt t.count most) (Some t) None

-- the nodes of a frame's list, and those that it counted
pub record Tally : Type 0 where
  pub nodes : List Node
  pub total : Option Total

-- each node is listed and none is counted, where `most` nodes decide
abbrev pub is_listed : ℕ → Bool
is_listed most = most == 18446744073709551615

-- they stand after those of the list, or are counted
abbrev pub tallied : Bool → ℕ → List Node → Total → List Node → Tally
tallied true most listed counted found = record { nodes = listed ++ found; total = Some counted }
tallied false most listed counted found = record { nodes = listed; total = cut most (plus counted found) }

abbrev pub tally : List ℕ → ℕ → Frame → List Node → Tally
tally line most f found = tallied (is_listed most) most (map node_of f.found.items) (total_of line f.sum) found

-- the sum counts the selected nodes, as far as `most` of them decide
abbrev pub IsTotal : List ℕ → ℕ → Sum → List Node → Type 0
IsTotal line most sum selected = cut most (total_of line sum) ≡ cut most (plus (none_in line) selected)

-- what is known is that these nodes are selected
abbrev pub IsKnownAs : Bool → List ℕ → List Cursor → ℕ → List Node → Known → Type 0
IsKnownAs true line found most selected (knowns.Listed start end) = IsRange line found start end selected
IsKnownAs true line found most selected (knowns.Counted sum) = ⊥
IsKnownAs false line found most selected (knowns.Listed start end) = ⊥
IsKnownAs false line found most selected (knowns.Counted sum) = IsTotal line most sum selected

abbrev pub IsKnown : List ℕ → List Cursor → ℕ → List Node → Known → Type 0
IsKnown line found most selected known = IsKnownAs (is_listed most) line found most selected known
