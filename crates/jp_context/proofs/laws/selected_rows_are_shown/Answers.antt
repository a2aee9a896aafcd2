-- A row is shown if it is selected.
use Rattle.jp_context.proofs.Marks.{selected_shown}
use Rattle.jp_context.proofs.laws.selected_rows_are_shown.Goals as goal

pub returns : goal.returns
returns c = λ before after rows. selected_shown before after 0 rows
