use Rattle.jp_laws.proofs.Distinct.{all_distinct}
use Rattle.jp_laws.proofs.nodes.selected_nodes_have_no_equal_names.Goals as goal

pub returns : goal.returns
returns c = all_distinct
