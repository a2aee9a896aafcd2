use Rattle.std.proofs.Common.{◌≡◌, ℕ, ◌+◌, ◌-◌, ◌<◌, ◌≤◌}
use Rattle.jp_cut.specs.Passing.{open_before}
use Rattle.jp_cut.proofs.skipping.find_end.Given as goal

abbrev pub invariant-loop-from : goal.invariant-loop-from
invariant-loop-from l = record {
  within : l.from ≤ 64;
  is : l.now ≡ open_before l.opening l.closing l.depth l.from;
  stays : (i : ℕ) → i ≤ l.from → 0 < open_before l.opening l.closing l.depth i;
  most : l.now ≤ l.depth + l.from;
}

abbrev pub decreases-loop-from : goal.decreases-loop-from
decreases-loop-from l = 64 - l.from
