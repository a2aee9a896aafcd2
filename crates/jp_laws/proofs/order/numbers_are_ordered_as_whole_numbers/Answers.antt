use Rattle.std.proofs.Common.{ap, is_eq, is_lt}
use Rattle.jp_laws.proofs.OrderedValues.{whole_order, with_zeros}
use Rattle.jp_laws.proofs.order.numbers_are_ordered_as_whole_numbers.Goals as goal

pub returns-clause-less : goal.returns-clause-less
returns-clause-less c = λ m n e. ap is_lt (whole_order m n e)

pub returns-clause-equal : goal.returns-clause-equal
returns-clause-equal c = λ m n e. ap is_eq (whole_order m n e)

pub returns-clause-zeros : goal.returns-clause-zeros
returns-clause-zeros c = with_zeros c.values_are_in_total_order.ensures
