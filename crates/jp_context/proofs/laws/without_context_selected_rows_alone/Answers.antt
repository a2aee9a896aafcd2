-- With no context nothing is still to follow.
use Rattle.jp_context.proofs.Marks.{selected_alone}
use Rattle.jp_context.proofs.laws.without_context_selected_rows_alone.Goals as goal

pub returns : goal.returns
returns c = selected_alone
