use Rattle.std.proofs.Common.{◌≡◌, nat_eq}
use Rattle.jp_model.specs.Json.Tree.{value_of, count_children}
use Rattle.jp_nodes.specs.Cursors.{node_of, children_from}
use Rattle.jp_nodes.specs.Spots.{children_in}
use Rattle.jp_values.proofs.equality_in.common_count.Given as goal

abbrev pub invariant-loop-left_next : goal.invariant-loop-left_next
invariant-loop-left_next l = nat_eq (count_children (children_in (value_of (node_of l.left).tree))) (count_children (children_in (value_of (node_of l.right).tree))) ≡ nat_eq (count_children (children_from l.left_next)) (count_children (children_from l.right_next))

abbrev pub decreases-loop-left_next : goal.decreases-loop-left_next
decreases-loop-left_next l = count_children (children_from l.left_next)
