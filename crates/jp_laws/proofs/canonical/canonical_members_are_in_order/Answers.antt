use Rattle.jp_laws.proofs.CanonicalLaws.{node_order}
use Rattle.jp_laws.proofs.canonical.canonical_members_are_in_order.Goals as goal

pub returns : goal.returns
returns c = node_order c.values_are_in_total_order.ensures c.one_tree.ensures
