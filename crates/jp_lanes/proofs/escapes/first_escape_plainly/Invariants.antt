use Rattle.std.proofs.Common.{◌≡◌, ℕ, ◌-◌, ◌<◌, ◌≤◌, false, length, slice_index}
use Rattle.jp_lanes.specs.First.{is_escape}
use Rattle.jp_lanes.proofs.escapes.first_escape_plainly.Given as goal

abbrev pub invariant-loop-at : goal.invariant-loop-at
invariant-loop-at l = record {
  order : l.from ≤ l.at;
  within : l.at ≤ length l.bytes;
  before : (k : ℕ) → l.from ≤ k → k < l.at → is_escape (slice_index l.bytes k) ≡ false;
}

abbrev pub decreases-loop-at : goal.decreases-loop-at
decreases-loop-at l = length l.bytes - l.at
