use Rattle.std.proofs.Common.{ℕ, List, sym, subst, arith, append-nil}
use Rattle.jp_masks.specs.Scanned.{InBlocks}
use Rattle.jp_masks.proofs.Growth.{grows_not}
use Rattle.jp_masks.proofs.progress.Progress.scan_blocks.Goals as goal

pub loop-block-init : goal.loop-block-init
loop-block-init c = record {
  scanned = λ framing whole was. subst (λ (w : List ℕ). InBlocks framing w c.args.self.now c.args.sink.now) (sym (append-nil whole)) was;
  counted = omega arith;
  grown = grows_not c.args.sink.now;
}
