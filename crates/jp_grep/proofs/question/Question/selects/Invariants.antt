-- Whether a query from here on selects a node decides.
use Rattle.std.proofs.Common.{◌≡◌, map, drop}
use Rattle.jp_lines.specs.Views.{text_of_view}
use Rattle.jp_nodes.specs.Cursors.{node_of}
use Rattle.jp_grep.specs.Asked.{asked_tree, query_path}
use Rattle.jp_grep.specs.LineAnswers.{Knows}
use Rattle.jp_grep.specs.Matching.{queries_of, selects}
use Rattle.jp_grep.proofs.question.Question.selects.Given as goal

abbrev pub invariant-loop-index : goal.invariant-loop-index
invariant-loop-index l = record {
  knows : Knows l.self (text_of_view l.asked.line) l.answers;
  some : selects (map query_path (drop l.index l.self.queries.items)) (node_of l.asked.node) (asked_tree l.asked) ≡ selects (queries_of l.self) (node_of l.asked.node) (asked_tree l.asked);
}
