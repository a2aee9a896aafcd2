use Rattle.jp_laws.proofs.AlikeNodes.{same_locations}
use Rattle.jp_laws.proofs.nodes.spelling_does_not_matter.Goals as goal

pub returns : goal.returns
returns c = λ q t u same. same_locations c.values_are_in_total_order.ensures t u same q
