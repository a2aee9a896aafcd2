-- The rows of the nodes so far were told, and those that are selected are counted.
use Rattle.std.proofs.Common.{◌≡◌, ◌≤◌, filter, flat_map, length, map, take, false}
use Rattle.jp_lines.specs.Views.{text_of_view, tree_of_view}
use Rattle.jp_nodes.specs.Cursors.{node_of}
use Rattle.jp_sink.specs.Telling.{Takes}
use Rattle.jp_grep.specs.LineAnswers.{Knows}
use Rattle.jp_grep.specs.Matching.{is_selected}
use Rattle.jp_grep.specs.Rows.{asked_events}
use Rattle.jp_grep.specs.Telling.{IsKept}
use Rattle.jp_grep.proofs.answer.Answerer.answer_value.Given as goal

abbrev pub invariant-loop-node : goal.invariant-loop-node
invariant-loop-node g l = record {
  rows : Takes g.S.Sink.stands l.fn.sink l.sink
      (flat_map (asked_events l.self.question.now l.self.form.now l.number l.text (tree_of_view l.line)) (map node_of (take l.node-index l.nodes)));
  selected : l.selected ≡ length (filter (is_selected l.self.question.now (tree_of_view l.line)) (map node_of (take l.node-index l.nodes)));
  wanted : l.selected ≤ l.most;
  working : (g.S.Sink.state l.sink).failed ≡ false;
  kept : IsKept (g.S.Sink.state l.fn.sink) (g.S.Sink.state l.sink);
  knows : Knows l.self.question.now (text_of_view l.line) l.room.answers;
}
