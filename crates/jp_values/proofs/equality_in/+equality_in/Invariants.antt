use Rattle.std.proofs.Common.{◌≡◌, ◌<◌, ◌+◌, ◌*◌}
use Rattle.jp_model.specs.Json.Tree.{value_of}
use Rattle.jp_model.specs.Meaning.Compare.{elements_equal, members_within}
use Rattle.jp_nodes.specs.Cursors.{node_of, children_from}
use Rattle.jp_nodes.specs.Spots.{children_in}
use Rattle.jp_nodes.specs.Words.{node_count, children_node_count}
use Rattle.jp_values.specs.Members.{EndsWith}
use Rattle.jp_values.specs.ByName.{AreKept}
use Rattle.jp_values.proofs.equality_in.+equality_in.Given as goal

abbrev pub decreases-equal_in : goal.decreases-equal_in
decreases-equal_in l = 2 * node_count (node_of l.left).tree + 1

abbrev pub decreases-equal_elements_in : goal.decreases-equal_elements_in
decreases-equal_elements_in l = 2 * node_count (node_of l.left).tree

abbrev pub decreases-has_members_in : goal.decreases-has_members_in
decreases-has_members_in l = 2 * node_count (node_of l.left).tree

abbrev pub invariant-equal_elements_in-loop-left_next : goal.invariant-equal_elements_in-loop-left_next
invariant-equal_elements_in-loop-left_next l = record {
  same : elements_equal (children_in (value_of (node_of l.left).tree)) (children_in (value_of (node_of l.right).tree)) ≡ elements_equal (children_from l.left_next) (children_from l.right_next);
  fewer : children_node_count (children_from l.left_next) < node_count (node_of l.left).tree;
}

abbrev pub decreases-equal_elements_in-loop-left_next : goal.decreases-equal_elements_in-loop-left_next
decreases-equal_elements_in-loop-left_next l = children_node_count (children_from l.left_next)

abbrev pub invariant-has_members_in-loop-next : goal.invariant-has_members_in-loop-next
invariant-has_members_in-loop-next l = record {
  same : members_within (children_in (value_of (node_of l.left).tree)) (children_in (value_of (node_of l.right).tree)) ≡ members_within (children_from l.next) (children_in (value_of (node_of l.right).tree));
  fewer : children_node_count (children_from l.next) < node_count (node_of l.left).tree;
  ends : EndsWith (children_in (value_of (node_of l.right).tree)) (children_from l.likely);
  object : l.searched.object ≡ l.right;
  kept : AreKept (children_in (value_of (node_of l.right).tree)) l.searched.sorted.items;
}

abbrev pub decreases-has_members_in-loop-next : goal.decreases-has_members_in-loop-next
decreases-has_members_in-loop-next l = children_node_count (children_from l.next)
