use Rattle.std.proofs.Common.{ℕ, ◌≤◌}
use Rattle.jp_iregexp.specs.Positions.{Has}
use Rattle.jp_iregexp.proofs.positions.PositionSet.first_from.Given as goal

abbrev pub invariant-loop-p : goal.invariant-loop-p
invariant-loop-p l = (q : ℕ) → l.low ≤ q → Has l.self q → l.p ≤ q
