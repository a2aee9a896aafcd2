use Rattle.jp_decimal.proofs.TotalOrder.{order_total}
use Rattle.jp_decimal.proofs.laws.values_are_in_total_order.Goals as goal

pub returns : goal.returns
returns c = order_total
