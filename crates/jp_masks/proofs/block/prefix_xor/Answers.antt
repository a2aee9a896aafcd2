use Rattle.jp_masks.proofs.Windows.{prefix_xor_lem}
use Rattle.jp_masks.proofs.block.prefix_xor.Goals as goal

pub returns : goal.returns
returns c = prefix_xor_lem c.args.word
