use Rattle.jp_laws.proofs.ReorderedNodes.{permuted_locations}
use Rattle.jp_laws.proofs.nodes.nodes_do_not_depend_on_the_order_of_members.Goals as goal

pub returns : goal.returns
returns c = λ q t u same d f. permuted_locations c.values_are_in_total_order.ensures t u same d f q
