-- The rows of the queries so far were told, and some of them selects a node or none does.
use Rattle.std.proofs.Common.{◌≡◌, map, take, false}
use Rattle.jp_lines.specs.Views.{text_of_view}
use Rattle.jp_nodes.specs.Cursors.{node_of}
use Rattle.jp_grep.specs.Asked.{asked_tree, query_path}
use Rattle.jp_sink.specs.Telling.{Takes}
use Rattle.jp_grep.specs.LineAnswers.{Knows}
use Rattle.jp_grep.specs.Matching.{nodes_of, selects}
use Rattle.jp_grep.specs.Rows.{value_event}
use Rattle.jp_grep.specs.Telling.{IsKept}
use Rattle.jp_grep.proofs.answer.Answerer.put_nodes.Given as goal

abbrev pub invariant-loop-index : goal.invariant-loop-index
invariant-loop-index g l = record {
  rows : Takes g.S.Sink.stands l.fn.sink l.sink
      (map (value_event l.self.form.now l.paths l.number l.text) (nodes_of (map query_path (take l.index l.self.question.now.queries.items)) (node_of l.asked.node) (asked_tree l.asked)));
  some : l.some ≡ selects (map query_path (take l.index l.self.question.now.queries.items)) (node_of l.asked.node) (asked_tree l.asked);
  working : (g.S.Sink.state l.sink).failed ≡ false;
  kept : IsKept (g.S.Sink.state l.fn.sink) (g.S.Sink.state l.sink);
  knows : Knows l.self.question.now (text_of_view l.asked.line) l.room.answers;
}
