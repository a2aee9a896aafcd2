use Rattle.jp_laws.proofs.Moved.{in_order}
use Rattle.jp_laws.proofs.rows.children_stand_in_order.Goals as goal

pub returns : goal.returns
returns c = in_order
