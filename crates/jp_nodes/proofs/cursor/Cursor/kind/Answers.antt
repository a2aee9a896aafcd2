use Rattle.std.proofs.Common.{◌∙◌}
use Rattle.jp_nodes.proofs.Packed.{kind-packed}
use Rattle.jp_nodes.proofs.cursor.Cursor.kind.Goals as goal

pub returns : goal.returns
returns c = let h = c.head.ensures in c.kind_of_head.ensures ∙ kind-packed c.head.result _ _ h.word h.parent h.below
