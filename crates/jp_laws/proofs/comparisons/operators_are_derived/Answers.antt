use Rattle.jp_laws.proofs.ValueEquality.{turned}
use Rattle.jp_laws.proofs.comparisons.operators_are_derived.Goals as goal

pub returns-clause-turned : goal.returns-clause-turned
returns-clause-turned c = turned c.values_are_in_total_order.ensures
