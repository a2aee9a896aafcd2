-- The children from this one on have all members of the name, and their names differ.
use Rattle.std.proofs.Common.{◌≡◌, false, length, Some}
use Rattle.std.specs.Str.{chars}
use Rattle.jp_model.specs.Json.Faults.{names, has_repeated}
use Rattle.jp_model.specs.Meaning.Slices.{is_name, named}
use Rattle.jp_nodes.specs.Cursors.{line_of, node_of, nodes_from, children_from}
use Rattle.jp_children.proofs.Walks.{Left}
use Rattle.jp_children.proofs.children.find_member.Given as goal

abbrev pub invariant-loop-child : goal.invariant-loop-child
invariant-loop-child l = record {
  left : Left (is_name (chars l.name)) (node_of l.node) (Some l.child) (named (chars l.name) (node_of l.node));
  once : has_repeated (names (children_from (Some l.child))) ≡ false;
  line : line_of l.child ≡ line_of l.node;
}

abbrev pub decreases-loop-child : goal.decreases-loop-child
decreases-loop-child l = length (nodes_from (Some l.child))
