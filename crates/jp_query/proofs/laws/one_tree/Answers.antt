use Rattle.jp_query.proofs.Statuses as statuses
use Rattle.jp_query.proofs.laws.one_tree.Goals as goal

pub returns : goal.returns
returns c = statuses.one_tree
