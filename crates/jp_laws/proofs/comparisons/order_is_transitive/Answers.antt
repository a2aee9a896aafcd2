use Rattle.jp_laws.proofs.NumberOrder.{less_chain}
use Rattle.jp_laws.proofs.comparisons.order_is_transitive.Goals as goal

pub returns : goal.returns
returns c = less_chain c.values_are_in_total_order.ensures
