use Rattle.jp_nodes.proofs.Packed.{unpacked}
use Rattle.jp_nodes.proofs.cursor.unpack.Goals as goal

pub returns : goal.returns
returns c s h e = unpacked c.args.word s h e
