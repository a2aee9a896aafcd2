use Rattle.std.proofs.Common.{ℕ, ◌+◌, ◌/◌, ◌<◌, ◌⊎◌}
use Rattle.jp_iregexp.specs.Positions.{Has}
use Rattle.jp_iregexp.proofs.positions.PositionSet.add_all.Given as goal

-- the words below i are in
abbrev pub invariant-loop-i : goal.invariant-loop-i
invariant-loop-i l = record {
  old : (q : ℕ) → Has l.initial.self q → Has l.self q;
  added : (q : ℕ) → q / 64 < l.other.first + l.i → Has l.other q → Has l.self q;
  new : (q : ℕ) → Has l.self q → Has l.initial.self q ⊎ Has l.other q;
}
