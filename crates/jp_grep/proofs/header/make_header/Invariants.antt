-- The cells in front, and the names so far.
use Rattle.std.proofs.Common.{◌++◌, codes, map, take}
use Rattle.jp_table.specs.Cells.{bare_cell}
use Rattle.jp_table.specs.Held.{Holds}
use Rattle.jp_table.specs.Tables.{front_cells}
use Rattle.jp_grep.proofs.header.make_header.Given as goal

abbrev pub invariant-loop-name : goal.invariant-loop-name
invariant-loop-name l = Holds l.table l.row (front_cells l.form (codes "file") (codes "line") ++ map bare_cell (map (λ name. name.now) (take l.name-index l.names)))
