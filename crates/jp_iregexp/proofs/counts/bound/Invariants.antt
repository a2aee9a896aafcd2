use Rattle.std.proofs.Common.{◌≡◌, ◌≤◌, length}
use Rattle.jp_iregexp.specs.Tokens.{bound_behind}
use Rattle.jp_iregexp.proofs.counts.bound.Given as goal

abbrev pub invariant-loop-left : goal.invariant-loop-left
invariant-loop-left l = record { small : l.value ≤ 999999999; same : bound_behind l.value l.left ≡ bound_behind 0 l.digits }

abbrev pub decreases-loop-left : goal.decreases-loop-left
decreases-loop-left l = length l.left
