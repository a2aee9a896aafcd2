-- The members in front of the next one were listed.
use Rattle.std.proofs.Common.{length}
use Rattle.jp_canon.proofs.Listed.{Listed}
use Rattle.jp_model.specs.Json.Tree.{value_of}
use Rattle.jp_nodes.specs.Cursors.{node_of, children_from, nodes_from}
use Rattle.jp_nodes.specs.Spots.{children_in}
use Rattle.jp_canon.proofs.members.append_members.Given as goal

abbrev pub invariant-loop-next : goal.invariant-loop-next
invariant-loop-next l = Listed l.fn.members.items l.members.items (children_from l.next) (children_in (value_of (node_of l.object).tree))

abbrev pub decreases-loop-next : goal.decreases-loop-next
decreases-loop-next l = length (nodes_from l.next)
