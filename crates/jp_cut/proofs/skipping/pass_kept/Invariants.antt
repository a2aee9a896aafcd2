use Rattle.std.proofs.Common.{◌≡◌, take}
use Rattle.jp_cut.specs.Passing.{Keeps}
use Rattle.jp_cut.proofs.skipping.pass_kept.Given as goal

abbrev pub invariant-loop-index : goal.invariant-loop-index
invariant-loop-index l = record {
  keeps : Keeps l.fn.pieces l.fn.known (take l.index l.bytes) l.now;
  none : l.now.depth ≡ 0;
}
