use Rattle.std.proofs.Common.{◌≡◌, ◌-◌, ◌≤◌, length, take}
use Rattle.jp_cut.specs.Cuts.{line_feeds_in}
use Rattle.jp_cut.proofs.cutter.count_in_blocks.Given as goal

abbrev pub invariant-loop-block : goal.invariant-loop-block
invariant-loop-block l = record {
  within : l.from ≤ length l.bytes;
  is : l.count ≡ line_feeds_in (take l.from l.bytes);
  few : l.count ≤ l.from;
}

abbrev pub decreases-loop-block : goal.decreases-loop-block
decreases-loop-block l = length l.bytes - l.from
