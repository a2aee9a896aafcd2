use Rattle.std.proofs.Common.{length}
use Rattle.jp_model.specs.Json.Tree.{value_of}
use Rattle.jp_nodes.specs.Cursors.{node_of, children_from, nodes_from}
use Rattle.jp_nodes.specs.Spots.{children_in}
use Rattle.jp_values.proofs.Gathered.{Gathered}
use Rattle.jp_values.proofs.members.all_members.Given as goal

abbrev pub invariant-loop-next : goal.invariant-loop-next
invariant-loop-next l = Gathered (children_in (value_of (node_of l.object).tree)) (children_from l.next) l.members.items

abbrev pub decreases-loop-next : goal.decreases-loop-next
decreases-loop-next l = length (nodes_from l.next)
