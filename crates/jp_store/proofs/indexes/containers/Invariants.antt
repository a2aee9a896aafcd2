use Rattle.std.proofs.Common.{◌≤◌}
use Rattle.jp_store.proofs.indexes.containers.Given as goal

-- no line is counted twice
abbrev pub invariant-loop-line : goal.invariant-loop-line
invariant-loop-line l = l.count ≤ l.line-index
