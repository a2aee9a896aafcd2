use Rattle.jp_laws.proofs.NumberOrder.{same_value, value_left, value_right}
use Rattle.jp_laws.proofs.comparisons.numbers_are_their_values.Goals as goal

pub returns-clause-same : goal.returns-clause-same
returns-clause-same c = same_value

pub returns-clause-left : goal.returns-clause-left
returns-clause-left c = value_left c.values_are_in_total_order.ensures

pub returns-clause-right : goal.returns-clause-right
returns-clause-right c = value_right c.values_are_in_total_order.ensures
