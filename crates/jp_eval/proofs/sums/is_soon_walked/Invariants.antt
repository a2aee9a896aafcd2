-- How many children are left.
use Rattle.std.proofs.Common.{length}
use Rattle.jp_nodes.specs.Cursors.{nodes_from}
use Rattle.jp_eval.proofs.sums.is_soon_walked.Given as goal

abbrev pub decreases-loop-next : goal.decreases-loop-next
decreases-loop-next l = length (nodes_from l.next)
