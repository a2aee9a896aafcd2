use Rattle.std.proofs.Common.{◌≡◌, ℕ, List, ◌+◌, ◌*◌, ◌++◌, take, flat_map}
use Rattle.jp_model.specs.declared.Framing.{Framing}
use Rattle.jp_masks.specs.Scanned.{InBlocks, Grows}
use Rattle.jp_masks.proofs.progress.Progress.scan_blocks.Given as goal

abbrev pub invariant-loop-block : goal.invariant-loop-block
invariant-loop-block l = record {
  scanned : (framing : Framing) (whole : List ℕ) → InBlocks framing whole l.fn.self l.fn.sink → InBlocks framing (whole ++ flat_map (λ b. b) (take l.block-index l.blocks)) l.self l.sink;
  counted : l.self.scanned ≡ l.fn.self.scanned + 64 * l.block-index;
  grown : Grows l.fn.sink l.sink;
}
