use Rattle.jp_laws.proofs.ValueEquality.{tree_members}
use Rattle.jp_laws.proofs.comparisons.spelled_members_have_names.Goals as goal

pub returns : goal.returns
returns c = tree_members
