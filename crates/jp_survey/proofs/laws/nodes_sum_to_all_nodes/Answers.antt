-- Counting the nodes of each row is counting the rows of each node.
use Rattle.jp_survey.specs.Surveys.{shown_by}
use Rattle.jp_survey.proofs.Rows.{nodes_sum}
use Rattle.jp_survey.proofs.laws.nodes_sum_to_all_nodes.Goals as goal

pub returns : goal.returns
returns c fold lines survey h = nodes_sum (shown_by fold lines) lines survey h
