use Rattle.jp_laws.proofs.CutPieces.{mark_dropped}
use Rattle.jp_laws.proofs.cutting.only_a_byte_order_mark_is_dropped.Goals as goal

pub returns : goal.returns
returns c = mark_dropped
