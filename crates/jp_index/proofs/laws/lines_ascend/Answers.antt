-- By the cells of the index.
use Rattle.jp_index.proofs.Found.{lines_ascend}
use Rattle.jp_index.proofs.laws.lines_ascend.Goals as goal

pub returns : goal.returns
returns c = λ index path entries is. lines_ascend path index.cells.items entries is.cells_are
