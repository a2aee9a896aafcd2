use Rattle.jp_laws.proofs.JoinedParts.{goes_on}
use Rattle.jp_laws.proofs.joining.segments_go_on_from_node_to_node.Goals as goal

pub returns : goal.returns
returns c = goes_on
