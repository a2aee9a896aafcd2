-- The names of columns.
use Rattle.std.specs.Prelude.{ℕ, List, map}
use Rattle.jp_columns.specs.Names.{text_of}
use Rattle.jp_columns.specs.declared.columns.ColumnNames.{ColumnNames}

-- the first is that of the first column
abbrev pub names_of : ColumnNames → List (List ℕ)
names_of columns = map text_of columns.names.items
