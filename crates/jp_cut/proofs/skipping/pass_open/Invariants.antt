use Rattle.std.proofs.Common.{◌+◌, ◌-◌, ◌<◌, ◌≤◌, length, take}
use Rattle.jp_cut.specs.Passing.{Passes}
use Rattle.jp_cut.proofs.skipping.pass_open.Given as goal

abbrev pub invariant-loop-block : goal.invariant-loop-block
invariant-loop-block l = record {
  within : l.passed.len ≤ length l.bytes;
  passes : Passes l.fn.known (take l.passed.len l.bytes) l.passed.known;
  some : 0 < l.passed.known.depth;
  most : l.passed.known.depth ≤ l.fn.known.depth + l.passed.len;
}

abbrev pub decreases-loop-block : goal.decreases-loop-block
decreases-loop-block l = length l.bytes - l.passed.len
