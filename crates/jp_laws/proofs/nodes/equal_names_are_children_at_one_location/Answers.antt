use Rattle.jp_laws.proofs.EqualNames.{with_equal_names, without_equal_names}
use Rattle.jp_laws.proofs.nodes.equal_names_are_children_at_one_location.Goals as goal

pub returns-clause-none : goal.returns-clause-none
returns-clause-none c = without_equal_names

pub returns-clause-some : goal.returns-clause-some
returns-clause-some c = with_equal_names
