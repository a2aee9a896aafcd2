-- Listed is where the nodes stand that the queries so far select.
use Rattle.std.proofs.Common.{◌≡◌, map, take}
use Rattle.jp_lines.specs.Views.{text_of_view}
use Rattle.jp_model.specs.Json.Tree.{span}
use Rattle.jp_model.specs.Meaning.Nodes.{Node}
use Rattle.jp_nodes.specs.Cursors.{node_of}
use Rattle.jp_grep.specs.Asked.{asked_tree, query_path}
use Rattle.jp_grep.specs.LineAnswers.{Knows}
use Rattle.jp_grep.specs.Matching.{nodes_of}
use Rattle.jp_grep.proofs.answer.Answerer.list_marks.Given as goal

abbrev pub invariant-loop-index : goal.invariant-loop-index
invariant-loop-index l = record {
  marks : l.room.marks.items ≡ map (λ (found : Node). span found.tree) (nodes_of (map query_path (take l.index l.self.question.now.queries.items)) (node_of l.asked.node) (asked_tree l.asked));
  row : l.room.row ≡ l.fn.room.row;
  knows : Knows l.self.question.now (text_of_view l.asked.line) l.room.answers;
}
