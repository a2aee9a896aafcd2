-- Those between the two edges.
use Rattle.jp_syntax.specs.View.{op_view}
use Rattle.jp_index.specs.Cells.{key_at}
use Rattle.jp_index.proofs.Runs.{run_is}
use Rattle.jp_index.proofs.order.run_of.Goals as goal

pub returns : goal.returns
returns c = λ h.
    run_is (key_at c.args.cells.now) (op_view c.args.op) c.args.key.now c.args.lines.now c.edge_of.result c.edge_of-2.result c.start.result c.end.result c.start.ensures c.end.ensures h
    (c.edge_of.ensures.position h) c.edge_of-2.ensures.position
