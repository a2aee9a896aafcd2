use Rattle.jp_laws.proofs.Descendants.{subtree_apart, subtree_is_within}
use Rattle.jp_laws.proofs.nodes.descendants_are_visited_once.Goals as goal

pub returns-clause-apart : goal.returns-clause-apart
returns-clause-apart c = subtree_apart

pub returns-clause-all : goal.returns-clause-all
returns-clause-all c = subtree_is_within
