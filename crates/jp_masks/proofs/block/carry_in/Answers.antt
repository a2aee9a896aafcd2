use Rattle.jp_masks.proofs.Bits.{says_carried}
use Rattle.jp_masks.proofs.block.carry_in.Goals as goal

pub returns : goal.returns
returns c = says_carried c.args.word c.args.flag
