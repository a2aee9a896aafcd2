use Rattle.std.proofs.Common.{ℕ, ◌≤◌, ◌<◌}
use Rattle.jp_iregexp.specs.Positions.{Has}
use Rattle.jp_iregexp.proofs.positions.PositionSet.range.Given as goal

abbrev pub invariant-loop-p : goal.invariant-loop-p
invariant-loop-p l = record { sound : (q : ℕ) → Has l.set q → l.low ≤ q × q < l.high; each : (q : ℕ) → l.low ≤ q → q < l.p → Has l.set q }
