-- No bit is set so far.
use Rattle.std.proofs.Common.{◌≡◌, ℕ, ◌-◌, ◌*◌, ◌<◌, ◌≤◌, length}
use Rattle.jp_index.specs.LineSets.{bit_of}
use Rattle.jp_index.proofs.line_set.next_position.Given as goal

abbrev pub invariant-loop-position : goal.invariant-loop-position
invariant-loop-position l = record {
  from : l.from ≤ l.position;
  within : l.position ≤ 64 * length l.words;
  between : (k : ℕ) → l.from ≤ k → k < l.position → bit_of l.words k ≡ 0;
}

abbrev pub decreases-loop-position : goal.decreases-loop-position
decreases-loop-position l = 64 * length l.words - l.position
