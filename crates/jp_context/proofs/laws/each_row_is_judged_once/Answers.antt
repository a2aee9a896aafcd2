-- Each row has one mark.
use Rattle.jp_context.proofs.Marks.{rows_of_marks}
use Rattle.jp_context.proofs.laws.each_row_is_judged_once.Goals as goal

pub returns : goal.returns
returns c = λ before after rows. rows_of_marks before after 0 rows
