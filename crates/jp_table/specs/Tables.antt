-- The rows of a table: cells parted by tabs, or by commas as RFC 4180 has them (section 2).
use Rattle.std.specs.Prelude.{ℕ, List, [], ◌∷◌, ◌++◌, map, flat_map, codes, ◌==◌, if◌then◌else◌}
use Rattle.std.specs.List.{join_with_byte}
use Rattle.jp_form.specs.declared.form.Form.{Form}
use Rattle.jp_form.specs.declared.form.Table.{Table}
use Rattle.jp_form.specs.declared.form.Table.TheVariants as tables
use Rattle.jp_table.specs.Cells.{Cell, bare_cell, is_quoted, text_cell}

-- what parts two cells
abbrev pub separator : Table → ℕ
separator tables.Tabs = 0x09
separator tables.Commas = 0x2C
separator tables.Canonical = 0x09

-- a byte of a cell between tabs: a tab, a line feed, a carriage return and a backslash are escaped by a backslash (profile)
abbrev pub tabs_byte : ℕ → List ℕ
tabs_byte byte =
    if byte == 0x09 then codes "\\t"
    else if byte == 0x0A then codes "\\n"
    else if byte == 0x0D then codes "\\r"
    else if byte == 0x5C then codes "\\\\"
    else byte ∷ []

-- a byte of a quoted cell: a quote is doubled (RFC 4180, section 2, rule 7)
abbrev pub quoted_byte : ℕ → List ℕ
quoted_byte byte = if byte == 0x22 then 0x22 ∷ 0x22 ∷ [] else byte ∷ []

-- a byte of a cell where it may not stand for itself
abbrev pub byte_text : Table → ℕ → List ℕ
byte_text tables.Tabs byte = tabs_byte byte
byte_text tables.Commas byte = quoted_byte byte
byte_text tables.Canonical byte = byte ∷ []

-- the bytes of such a cell
abbrev pub bytes_text : Table → List ℕ → List ℕ
bytes_text table text = flat_map (byte_text table) text

-- a cell in quotes
abbrev pub quoted_text : List ℕ → List ℕ
quoted_text text = 0x22 ∷ (bytes_text tables.Commas text ++ 0x22 ∷ [])

-- a cell as it stands in its row: between commas in quotes, or by itself where it wants none; a canonical one by itself
abbrev pub cell_text : Table → Cell → List ℕ
cell_text tables.Tabs cell = bytes_text tables.Tabs cell.text
cell_text tables.Commas cell = if is_quoted cell then quoted_text cell.text else cell.text
cell_text tables.Canonical cell = cell.text

-- cells in a row
abbrev pub joined : Table → List Cell → List ℕ
joined table cells = join_with_byte (separator table) (map (cell_text table) cells)

-- the cells in front, as far as they are wanted: of the stream, whose name is a string, and of the line, whose number is one
abbrev pub front_cells : Form → List ℕ → List ℕ → List Cell
front_cells form name number = (if form.named then text_cell name ∷ [] else []) ++ (if form.numbered then bare_cell number ∷ [] else [])
