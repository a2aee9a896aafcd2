-- A row of which none stood has one cell.
use Rattle.std.proofs.Common.{[]}
use Rattle.jp_tally.proofs.text.begin_row.Goals as goal

pub returns : goal.returns
returns c = c.add.ensures [] (c.clear.ensures c.args.table)
