use Rattle.jp_laws.proofs.CanonicalLaws.{nodes_told, values_told}
use Rattle.jp_laws.proofs.canonical.canonical_texts_are_equal_where_values_are.Goals as goal

pub returns-clause-values : goal.returns-clause-values
returns-clause-values c = values_told c.values_are_in_total_order.ensures c.one_tree.ensures

pub returns-clause-nodes : goal.returns-clause-nodes
returns-clause-nodes c = nodes_told c.values_are_in_total_order.ensures c.one_tree.ensures
