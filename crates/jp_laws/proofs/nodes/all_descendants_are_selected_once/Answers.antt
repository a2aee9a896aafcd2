use Rattle.jp_laws.proofs.Descendants.{all_apart, all_are_within}
use Rattle.jp_laws.proofs.nodes.all_descendants_are_selected_once.Goals as goal

pub returns-clause-apart : goal.returns-clause-apart
returns-clause-apart c = all_apart

pub returns-clause-all : goal.returns-clause-all
returns-clause-all c = all_are_within
