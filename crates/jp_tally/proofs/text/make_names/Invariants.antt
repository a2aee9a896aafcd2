-- The cell of the counts, and the names so far.
use Rattle.std.proofs.Common.{[], ◌∷◌, ◌++◌, codes, map, take}
use Rattle.jp_table.specs.Cells.{bare_cell}
use Rattle.jp_table.specs.Held.{Holds}
use Rattle.jp_tally.proofs.text.make_names.Given as goal

abbrev pub invariant-loop-name : goal.invariant-loop-name
invariant-loop-name l = Holds l.table l.row ((bare_cell (codes "count") ∷ []) ++ map bare_cell (map (λ name. name.now) (take l.name-index l.names)))
