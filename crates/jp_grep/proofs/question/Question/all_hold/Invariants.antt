-- Whether the conditions from here on hold decides.
use Rattle.std.proofs.Common.{◌≡◌, map, drop}
use Rattle.jp_lines.specs.Views.{text_of_view}
use Rattle.jp_nodes.specs.Cursors.{node_of}
use Rattle.jp_grep.specs.Asked.{asked_tree}
use Rattle.jp_grep.specs.Conditions.{condition_view}
use Rattle.jp_grep.specs.LineAnswers.{Knows}
use Rattle.jp_grep.specs.Matching.{all_hold, conditions_of}
use Rattle.jp_grep.proofs.question.Question.all_hold.Given as goal

abbrev pub invariant-loop-index : goal.invariant-loop-index
invariant-loop-index l = record {
  knows : Knows l.self (text_of_view l.asked.line) l.answers;
  truth : all_hold (map condition_view (drop l.index l.self.conditions.items)) (node_of l.asked.node) (asked_tree l.asked) ≡ all_hold (conditions_of l.self) (node_of l.asked.node) (asked_tree l.asked);
}
