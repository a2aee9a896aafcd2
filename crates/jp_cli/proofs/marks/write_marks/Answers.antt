-- One mark more is written, or a beginning of it.
use Rattle.std.proofs.Common.{◌∙◌, ℕ, List}
use Rattle.jp_nodes.specs.Cursors.{node_of}
use Rattle.jp_nodes.specs.declared.cursor.Cursor.{Cursor}
use Rattle.jp_cli.specs.Marks.{mark}
use Rattle.jp_cli.proofs.RowsWritten.{row_written, row_in_part}
use Rattle.jp_cli.proofs.marks.write_marks.Goals as goal

abbrev text : Cursor → List ℕ
text node = mark (node_of node)

pub returns-in-Err-clause-text : goal.returns-in-Err-clause-text
returns-in-Err-clause-text g c =
    row_in_part text c.args.nodes.now c.loop-node.node-index c.node-item.result c.loop-node-test.true c.node-item.is _ _ _ c.loop-node.invariant.written c.in-Err.ensures.text

pub loop-node-preserved : goal.loop-node-preserved
loop-node-preserved g c = record {
  working = c.in_default.ensures.fault;
  early = c.in_default.ensures.after ∙ c.loop-node.invariant.early;
  written = row_written text c.args.nodes.now c.loop-node.node-index c.node-item.result c.loop-node-test.true c.node-item.is _ _ _ c.loop-node.invariant.written c.in_default.ensures.text;
}
