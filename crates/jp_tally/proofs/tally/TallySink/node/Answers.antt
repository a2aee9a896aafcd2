-- The row of a node is the node.
use Rattle.std.proofs.Common.{◌∙◌, [], ◌∷◌, List, ap, sym, ℕ}
use Rattle.jp_model.specs.Rows.{source}
use Rattle.jp_nodes.specs.Cursors.{line_of, node_of}
use Rattle.jp_sink.specs.Events.{node_event}
use Rattle.jp_tally.proofs.OneMore.{row_before_feed}
use Rattle.jp_tally.proofs.Telling.{tells_row}
use Rattle.jp_tally.proofs.tally.TallySink.node.Goals as goal

pub returns-clause-told : goal.returns-clause-told
returns-clause-told c =
    let line = line_of c.args.node in let node = node_of c.args.node in
    tells_row c.args.self.now c.take.new.self c.take.result (node_event c.args._number line node) c.source.result.now
    (ap (λ (row : List ℕ). row ∷ []) (row_before_feed (source line node.tree) ∙ sym c.source.ensures)) c.take.ensures.counts c.take.ensures.fault
