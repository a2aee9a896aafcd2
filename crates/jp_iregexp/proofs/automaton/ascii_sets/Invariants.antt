use Rattle.std.proofs.Common.{◌≡◌, ℕ, ◌<◌, length, map, get_or}
use Rattle.jp_iregexp.specs.Layouts.{state_of}
use Rattle.jp_iregexp.specs.States.{AreCodes, waits_for}
use Rattle.jp_iregexp.proofs.automaton.ascii_sets.Given as goal

abbrev pub invariant-loop-state : goal.invariant-loop-state
invariant-loop-state l = record {
  size : length l.sets.items ≡ l.state-index;
  each : (k : ℕ) → k < length l.sets.items → AreCodes (waits_for (map state_of l.states) k) (get_or l.sets.items k 0);
}
