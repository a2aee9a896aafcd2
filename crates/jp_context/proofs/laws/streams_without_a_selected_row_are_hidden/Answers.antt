-- With none selected none is to follow, and none is seen.
use Rattle.jp_context.proofs.Apart.{all_hidden}
use Rattle.jp_context.proofs.laws.streams_without_a_selected_row_are_hidden.Goals as goal

pub returns : goal.returns
returns c = all_hidden
