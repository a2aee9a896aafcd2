-- The row of a table while it is made.
use Rattle.std.specs.Prelude.{◌≡◌, ℕ, List, [], ◌∷◌, Bool, true, false}
use Rattle.jp_form.specs.declared.form.Table.{Table}
use Rattle.jp_table.specs.Cells.{Cell}
use Rattle.jp_table.specs.Tables.{joined}
use Rattle.jp_table.specs.declared.row.TableRow.{TableRow}

-- no cell stands in a row
abbrev pub has_none : List Cell → Bool
has_none [] = true
has_none (cell ∷ more) = false

-- the bytes of a row so far
abbrev pub row_bytes : TableRow → List ℕ
row_bytes row = row.text.items

-- the row has these cells so far
pub record Holds (table : Table) (row : TableRow) (cells : List Cell) : Type 0 where
  pub text : row_bytes row ≡ joined table cells
  pub first : row.is_empty ≡ has_none cells
