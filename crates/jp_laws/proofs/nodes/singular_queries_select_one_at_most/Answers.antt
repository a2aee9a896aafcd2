use Rattle.jp_laws.proofs.SingularNodes.{one_selected}
use Rattle.jp_laws.proofs.nodes.singular_queries_select_one_at_most.Goals as goal

pub returns : goal.returns
returns c = one_selected
