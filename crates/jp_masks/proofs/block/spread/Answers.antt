use Rattle.std.proofs.Common.{sym, ◌∙◌}
use Rattle.jp_masks.proofs.Bits.{bit_ones, bit_zero}
use Rattle.jp_masks.proofs.block.spread.Goals as goal

pub returns-then-flag : goal.returns-then-flag
returns-then-flag c i within = bit_ones i within ∙ sym c.if-flag.true

pub returns-else-flag : goal.returns-else-flag
returns-else-flag c i within = bit_zero i ∙ sym c.if-flag.false
