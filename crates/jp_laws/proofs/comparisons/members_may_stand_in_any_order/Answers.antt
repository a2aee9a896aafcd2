use Rattle.jp_laws.proofs.ValueEquality.{in_any_order}
use Rattle.jp_laws.proofs.comparisons.members_may_stand_in_any_order.Goals as goal

pub returns : goal.returns
returns c = in_any_order c.values_are_in_total_order.ensures
