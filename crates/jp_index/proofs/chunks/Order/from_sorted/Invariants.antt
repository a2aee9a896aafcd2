-- What is in chunks so far.
use Rattle.std.proofs.Common.{◌≡◌, ◌-◌, ◌≤◌, length, take, All}
use Rattle.jp_index.specs.Chunks.{IsChunk, lines_in}
use Rattle.jp_index.proofs.chunks.Order.from_sorted.Given as goal

abbrev pub invariant-loop-start : goal.invariant-loop-start
invariant-loop-start l = record {
  within : l.start ≤ length l.lines;
  lines : lines_in l.chunks.items ≡ take l.start l.lines;
  each : All IsChunk l.chunks.items;
}

abbrev pub decreases-loop-start : goal.decreases-loop-start
decreases-loop-start l = length l.lines - l.start
