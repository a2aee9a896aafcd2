-- The rows of an answer.
use Rattle.std.specs.Prelude.{◌≡◌, ℕ, ◌-◌, List, All, map, Some, slice_get}
use Rattle.jp_model.specs.Rows as model
use Rattle.jp_nodes.specs.Cursors.{line_of, node_of}
use Rattle.jp_nodes.specs.declared.cursor.Cursor.{Cursor}
use Rattle.jp_plan.specs.declared.answer.Row.{Row}
use Rattle.jp_plan.specs.declared.answer.Row.TheVariants as found

-- the row of the definition
abbrev pub row_view : Row → model.Row
row_view (found.Node line cursor) = model.node_row line (node_of cursor)
row_view (found.Refused line fault) = model.refusal_row line fault

-- those of the definition
abbrev pub rows_view : List Row → List model.Row
rows_view rows = map row_view rows

-- the cursor of a row stands on the line of its number
abbrev pub IsOnItsLine : List (List ℕ) → Row → Type 0
IsOnItsLine lines (found.Node line cursor) = slice_get lines (line - 1) ≡ Some (line_of cursor)
IsOnItsLine lines (found.Refused line fault) = Unit {0}

-- each row does
abbrev pub AreOnTheirLines : List (List ℕ) → List Row → Type 0
AreOnTheirLines lines rows = All (IsOnItsLine lines) rows

-- the row of a node of a line
abbrev pub node_row : ℕ → Cursor → Row
node_row line cursor = found.Node line cursor
