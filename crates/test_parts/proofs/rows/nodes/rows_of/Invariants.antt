-- No write fails before the row of a node.
use Rattle.std.proofs.Common.{◌≡◌, false}
use Rattle.test_parts.proofs.rows.nodes.rows_of.Given as goal

abbrev pub invariant-loop-place : goal.invariant-loop-place
invariant-loop-place l = l.out.failed ≡ false
