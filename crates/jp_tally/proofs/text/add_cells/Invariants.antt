-- The cells so far, and those of what is left, are the cells of the row.
use Rattle.std.proofs.Common.{◌≡◌, ◌++◌, List, length, map}
use Rattle.jp_table.specs.Cells.{Cell}
use Rattle.jp_table.specs.Held.{Holds}
use Rattle.jp_tally.specs.Texts.{cells_of, shown_cell}
use Rattle.jp_tally.proofs.text.add_cells.Given as goal

abbrev pub invariant-loop-cell : goal.invariant-loop-cell
invariant-loop-cell l = (before : List Cell) → Holds l.table l.fn.row before
    → (so_far : List Cell) × Holds l.table l.row so_far × (so_far ++ map (shown_cell l.table) (cells_of l.rest) ≡ before ++ map (shown_cell l.table) (cells_of l.cells))

abbrev pub decreases-loop-cell : goal.decreases-loop-cell
decreases-loop-cell l = length l.rest
