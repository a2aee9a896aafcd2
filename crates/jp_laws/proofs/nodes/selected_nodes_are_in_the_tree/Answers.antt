use Rattle.jp_laws.proofs.Descendants.{selected_within}
use Rattle.jp_laws.proofs.nodes.selected_nodes_are_in_the_tree.Goals as goal

pub returns : goal.returns
returns c = selected_within
