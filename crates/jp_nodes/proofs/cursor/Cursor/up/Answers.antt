use Rattle.jp_nodes.proofs.Packed.{parent-packed}
use Rattle.jp_nodes.proofs.cursor.Cursor.up.Goals as goal

pub returns : goal.returns
returns c = let h = c.head.ensures in parent-packed c.head.result _ _ h.word h.parent h.below
