use Rattle.std.proofs.Common.{ℕ, ◌/◌, ◌<◌, ◌≤◌}
use Rattle.jp_iregexp.specs.Positions.{Has, IsSetOver}
use Rattle.jp_iregexp.proofs.positions.PositionSet.all.Given as goal

-- the words below w are in
abbrev pub invariant-loop-w : goal.invariant-loop-w
invariant-loop-w l = record { over : IsSetOver l.length l.set; each : (q : ℕ) → q / 64 < l.w → q ≤ l.length → Has l.set q }
