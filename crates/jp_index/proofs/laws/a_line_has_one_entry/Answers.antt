-- By the cells of the index.
use Rattle.jp_index.proofs.Found.{one_entry}
use Rattle.jp_index.proofs.laws.a_line_has_one_entry.Goals as goal

pub returns : goal.returns
returns c = λ index path entries line is. one_entry path index.cells.items entries line is.cells_are
