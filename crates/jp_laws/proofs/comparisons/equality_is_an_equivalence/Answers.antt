use Rattle.jp_laws.proofs.ValueEquality.{reflexive, symmetric, transitive}
use Rattle.jp_laws.proofs.comparisons.equality_is_an_equivalence.Goals as goal

pub returns-clause-reflexive : goal.returns-clause-reflexive
returns-clause-reflexive c = reflexive c.values_are_in_total_order.ensures

pub returns-clause-symmetric : goal.returns-clause-symmetric
returns-clause-symmetric c = symmetric c.values_are_in_total_order.ensures

pub returns-clause-transitive : goal.returns-clause-transitive
returns-clause-transitive c = transitive c.values_are_in_total_order.ensures
