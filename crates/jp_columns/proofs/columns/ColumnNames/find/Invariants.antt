-- For each column its member is found, or is among those that are left.
use Rattle.std.proofs.Common.{◌≡◌, ◌<◌, ℕ, [], length, get_or, false, All, IfSome, None}
use Rattle.jp_model.specs.Json.Faults.{names, has_repeated}
use Rattle.jp_nodes.specs.Cursors.{line_of, node_of, nodes_from, children_from}
use Rattle.jp_children.specs.Walks.{IsAt}
use Rattle.jp_columns.specs.Columns.{names_of}
use Rattle.jp_columns.proofs.Members.{IsFound}
use Rattle.jp_columns.proofs.columns.ColumnNames.find.Given as goal

abbrev pub invariant-loop-next : goal.invariant-loop-next
invariant-loop-next l = record {
  index : ℕ;
  at : IsAt (node_of l.node) index l.next;
  each : (column : ℕ) → column < length l.found.items → IsFound (node_of l.node) index l.next (get_or (names_of l.self) column []) (get_or l.found.items column None);
  length : length l.found.items ≡ length (names_of l.self);
  once : has_repeated (names (children_from l.next)) ≡ false;
  line : IfSome l.next (λ c. line_of c ≡ line_of l.node);
  lines : All (λ some. IfSome some (λ c. line_of c ≡ line_of l.node)) l.found.items;
}

abbrev pub decreases-loop-next : goal.decreases-loop-next
decreases-loop-next l = length (nodes_from l.next)
