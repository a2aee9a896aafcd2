-- Places among the children of a node.
use Rattle.std.specs.Prelude.{◌≡◌, ℕ, ℤ, int_le, int_lt, map, drop, Bool, ◌&&◌, Option}
use Rattle.jp_model.specs.Json.Tree.{value_of}
use Rattle.jp_model.specs.Meaning.Nodes.{Node, child_of, steps_from, steps_in}
use Rattle.jp_model.specs.Meaning.Slices.{on_stride}
use Rattle.jp_nodes.specs.declared.cursor.Cursor.{Cursor}
use Rattle.jp_nodes.specs.Cursors.{nodes_from, children_from}

-- the children from an index on are those from this one on
pub record IsAt (parent : Node) (index : ℕ) (next : Option Cursor) : Type 0 where
  pub steps : steps_from index (children_from next) ≡ drop index (steps_in (value_of parent.tree))
  pub nodes : nodes_from next ≡ map (child_of parent) (steps_from index (children_from next))

-- from the lower bound on and before the upper one, a whole number of steps from the lower (RFC 9535, section 2.3.4.2.2)
abbrev pub rises : (low high step : ℤ) → ℤ → Bool
rises low high step i = int_le low i && int_lt i high && on_stride low step i
