use Rattle.jp_laws.proofs.WayBack.{one_node}
use Rattle.jp_laws.proofs.paths.no_two_nodes_show_one_path.Goals as goal

pub returns : goal.returns
returns c = one_node
