-- Each node is counted, and each path is folded alike, in each order.
use Rattle.jp_survey.proofs.Reordered.{survey_moved}
use Rattle.jp_survey.proofs.laws.no_order_of_lines_matters.Goals as goal

pub returns : goal.returns
returns c = survey_moved
