-- A row has a node, and its path is shown by the row's.
use Rattle.jp_survey.proofs.Rows.{rows_of_nodes}
use Rattle.jp_survey.proofs.laws.each_row_is_of_a_node.Goals as goal

pub returns : goal.returns
returns c = rows_of_nodes
