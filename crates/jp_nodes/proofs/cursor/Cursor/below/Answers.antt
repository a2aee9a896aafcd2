use Rattle.std.proofs.Common.{◌∙◌}
use Rattle.jp_nodes.proofs.Packed.{below-packed}
use Rattle.jp_nodes.proofs.cursor.Cursor.below.Goals as goal

pub returns : goal.returns
returns c = let h = c.head.ensures in c.saturating_sub.ensures ∙ below-packed c.head.result _ _ h.word h.parent h.below
