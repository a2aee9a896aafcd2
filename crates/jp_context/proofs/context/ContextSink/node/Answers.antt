-- A node is a row that is selected.
use Rattle.std.proofs.Common.{refl, true}
use Rattle.jp_nodes.specs.Cursors.{line_of, node_of}
use Rattle.jp_context.specs.Told.{next_row}
use Rattle.jp_context.proofs.Standing.{tells_row}
use Rattle.jp_context.proofs.context.ContextSink.node.Goals as goal
use Rattle.jp_sink.specs.Events.{event_text, node_event}

pub returns-clause-told : goal.returns-clause-told
returns-clause-told g c =
    let event = node_event c.args._number (line_of c.args.node) (node_of c.args.node) in
    tells_row c.args.self.now (record { groups = c.take_node.new.self; text = c.take_node.new.text }) c.take_node.ensures.layout c.take_node.result event (next_row true (event_text event)) (λ more. refl)
    (c.take_node.ensures.shows c.args._number)
