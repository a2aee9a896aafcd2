-- The rows of the nodes so far were told.
use Rattle.std.proofs.Common.{◌≡◌, map, take, false}
use Rattle.jp_nodes.specs.Cursors.{node_of}
use Rattle.jp_sink.specs.Telling.{Takes}
use Rattle.jp_grep.specs.Rows.{value_event}
use Rattle.jp_grep.specs.Telling.{IsKept}
use Rattle.jp_grep.proofs.answer.Answerer.put_values.Given as goal

abbrev pub invariant-loop-node : goal.invariant-loop-node
invariant-loop-node g l = record {
  rows : Takes g.S.Sink.stands l.fn.sink l.sink (map (value_event l.self.form.now l.paths l.number l.text) (map node_of (take l.node-index l.nodes)));
  working : (g.S.Sink.state l.sink).failed ≡ false;
  kept : IsKept (g.S.Sink.state l.fn.sink) (g.S.Sink.state l.sink);
}
