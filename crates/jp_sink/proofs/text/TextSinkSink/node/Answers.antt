-- The bytes of a node come, and then a line feed.
use Rattle.std.proofs.Common.{◌≡◌, ◌∙◌, ◌++◌, ap}
use Rattle.jp_nodes.specs.Cursors.{line_of, node_of}
use Rattle.jp_sink.specs.Events.{node_event}
use Rattle.jp_sink.specs.Texts.{written}
use Rattle.jp_sink.proofs.Texts.{both_written, event_written}
use Rattle.jp_sink.proofs.text.TextSinkSink.node.Goals as goal

pub returns-clause-told : goal.returns-clause-told
returns-clause-told g c =
    event_written c.put-2.result c.args.self.now c.put-2.new.self (node_event c.args._number (line_of c.args.node) (node_of c.args.node))
    (both_written c.put-2.result c.args.self.now c.put.new.self c.put-2.new.self _ _ (c.in_ok-put.ensures.written ∙ ap (λ l. written c.args.self.now ++ l) c.source.ensures) c.put-2.ensures.written)
