use Rattle.jp_laws.proofs.CanonicalLaws.{node_says, node_status}
use Rattle.jp_laws.proofs.canonical.canonical_text_says_the_value.Goals as goal

pub returns-clause-said : goal.returns-clause-said
returns-clause-said c = node_says c.values_are_in_total_order.ensures c.one_tree.ensures

pub returns-clause-status : goal.returns-clause-status
returns-clause-status c = node_status c.values_are_in_total_order.ensures c.one_tree.ensures
