use Rattle.std.proofs.Common.{◌≡◌, ◌*◌, take, flat_map}
use Rattle.jp_masks.specs.OneLine.{HasMarked}
use Rattle.jp_masks.proofs.one_line.find_line_marks.Given as goal

abbrev pub invariant-loop-block : goal.invariant-loop-block
invariant-loop-block l = record {
  marked : HasMarked (flat_map (λ b. b) (take l.block-index l.blocks)) l.positions.items l.known l.base;
  base : l.base ≡ 64 * l.block-index;
}
