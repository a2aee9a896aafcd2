-- The cell of the stream, and after it that of the line.
use Rattle.jp_table.proofs.row.TableRow.begin.Goals as goal

pub returns : goal.returns
returns c = c.add_where-2.ensures _ (c.in_ok-add_where.ensures _ (c.clear.ensures c.args.table))
