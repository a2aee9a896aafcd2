use Rattle.jp_laws.proofs.NumberOrder.{numbers_decided, strings_decided}
use Rattle.jp_laws.proofs.comparisons.order_is_decided.Goals as goal

pub returns-clause-numbers : goal.returns-clause-numbers
returns-clause-numbers c = numbers_decided c.values_are_in_total_order.ensures

pub returns-clause-strings : goal.returns-clause-strings
returns-clause-strings c = strings_decided
