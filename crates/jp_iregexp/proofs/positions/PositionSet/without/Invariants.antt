use Rattle.std.proofs.Common.{ℕ, ◌+◌, ◌/◌, ◌<◌, ◌⊎◌}
use Rattle.jp_iregexp.specs.Positions.{Has}
use Rattle.jp_iregexp.proofs.positions.PositionSet.without.Given as goal

-- of the words below i
abbrev pub invariant-loop-i : goal.invariant-loop-i
invariant-loop-i l = record {
  sound : (q : ℕ) → Has l.set q → Has l.self q;
  complete : (q : ℕ) → q / 64 < l.self.first + l.i → Has l.self q → Has l.set q ⊎ Has l.other q;
}
