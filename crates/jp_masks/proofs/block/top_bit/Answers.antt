use Rattle.std.proofs.Common.{arith}
use Rattle.jp_masks.proofs.Bits.{top_bit_lem}
use Rattle.jp_masks.proofs.block.top_bit.Goals as goal

pub returns : goal.returns
returns c = top_bit_lem c.args.word (omega arith)
