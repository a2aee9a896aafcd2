use Rattle.std.proofs.Common.{◌≤◌, ◌<◌, ◌-◌}
use Rattle.jp_iregexp.specs.Evens.{AreRuns}
use Rattle.jp_iregexp.proofs.even.doubled.Given as goal

abbrev pub invariant-loop-turns : goal.invariant-loop-turns
invariant-loop-turns l = record { some : 0 < l.turns; few : l.turns ≤ l.count; runs : AreRuns l.once l.length l.turns l.all }

abbrev pub decreases-loop-turns : goal.decreases-loop-turns
decreases-loop-turns l = l.count - l.turns
