-- What is still to follow is counted from the last row that is selected.
use Rattle.jp_context.proofs.Near.{near_is_shown, shown_is_near}
use Rattle.jp_context.proofs.laws.rows_near_selected_ones_are_shown.Goals as goal

pub returns : goal.returns
returns c = record { near = shown_is_near; shown = near_is_shown }
