use Rattle.std.proofs.Common.{◌≡◌, ◌+◌, length}
use Rattle.jp_nodes.specs.Cursors.{nodes_from}
use Rattle.jp_nodes.proofs.cursor.Cursor.count_from.Given as goal

abbrev pub invariant-loop-next : goal.invariant-loop-next
invariant-loop-next l = l.count + length (nodes_from l.next) ≡ length (nodes_from l.first)

abbrev pub decreases-loop-next : goal.decreases-loop-next
decreases-loop-next l = length (nodes_from l.next)
