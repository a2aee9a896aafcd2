-- By the cells of the index.
use Rattle.jp_index.proofs.Found.{found_ascend}
use Rattle.jp_index.proofs.laws.found_lines_ascend.Goals as goal

pub returns : goal.returns
returns c = λ index path entries op v is. found_ascend path op v index.cells.items entries is.cells_are
