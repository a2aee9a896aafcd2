-- How a row of a table is read, by which it leads back to its cells, and to what they have.
use Rattle.std.specs.Prelude.{◌≡◌, ℕ, List, [], ◌∷◌, ◌++◌, map, length, Bool, true, false, ◌==◌, ◌&&◌, ◌||◌, ⊤, if◌then◌else◌}
use Rattle.std.specs.List.{list_any}
use Rattle.jp_model.specs.Rows.{line_feed}
use Rattle.jp_form.specs.declared.form.Table.{Table}
use Rattle.jp_form.specs.declared.form.Table.TheVariants as tables
use Rattle.jp_table.specs.Cells.{Cell, begins_structure, is_quoted}
use Rattle.jp_table.specs.Literals.{is_literal}
use Rattle.jp_table.specs.Tables.{joined}
use Rattle.jp_table.specs.declared.cell.CellKind.{CellKind}
use Rattle.jp_table.specs.declared.cell.CellKind.TheVariants as kinds

-- a cell that is read: whether it stands in quotes, and its text
pub record ReadCell : Type 0 where
  pub quoted : Bool
  pub text : List ℕ

-- what is read of a row: what is left of a cell, the cells after it, and the bytes after the row
pub record Read : Type 0 where
  pub cell : ReadCell
  pub others : List ReadCell
  pub rest : List ℕ

-- what is left of a cell that ends
abbrev pub no_more : ReadCell
no_more = record { quoted = false; text = [] }

-- the row ends
abbrev pub row_ends : List ℕ → Read
row_ends rest = record { cell = no_more; others = []; rest = rest }

-- the cell ends, and others follow
abbrev pub cell_ends : Read → Read
cell_ends next = record { cell = no_more; others = next.cell ∷ next.others; rest = next.rest }

-- a byte of the cell
abbrev pub with_byte : ℕ → Read → Read
with_byte byte next = record { cell = record { quoted = next.cell.quoted; text = byte ∷ next.cell.text }; others = next.others; rest = next.rest }

-- the cell stands in quotes
abbrev pub in_quotes : Read → Read
in_quotes next = record { cell = record { quoted = true; text = next.cell.text }; others = next.others; rest = next.rest }

-- what a byte after a backslash stands for
abbrev pub unescaped : ℕ → ℕ
unescaped byte = if byte == 0x74 then 0x09 else if byte == 0x6E then 0x0A else if byte == 0x72 then 0x0D else byte

-- cells between tabs, read after a backslash or not
abbrev pub read_tabs : (escaped : Bool) → List ℕ → Read
read_tabs escaped [] = row_ends []
read_tabs true (byte ∷ rest) = with_byte (unescaped byte) (read_tabs false rest)
read_tabs false (byte ∷ rest) =
    if byte == 0x09 then cell_ends (read_tabs false rest)
    else if byte == 0x0A then row_ends rest
    else if byte == 0x5C then read_tabs true rest
    else with_byte byte (read_tabs false rest)

-- where one stands who reads cells between commas: in front of a cell, in one without quotes, in one with quotes, after a
-- quote in it
pub data Place : Type 0 where
  in_front : Place
  in_bare : Place
  in_quoted : Place
  behind_quote : Place

-- cells between commas, of which one that begins with a quote ends with one, and a quote in it is doubled (RFC 4180, section 2)
abbrev pub read_commas : Place → List ℕ → Read
read_commas place [] = row_ends []
read_commas in_front (byte ∷ rest) =
    if byte == 0x22 then in_quotes (read_commas in_quoted rest)
    else if byte == 0x2C then cell_ends (read_commas in_front rest)
    else if byte == 0x0A then row_ends rest
    else with_byte byte (read_commas in_bare rest)
read_commas in_bare (byte ∷ rest) =
    if byte == 0x2C then cell_ends (read_commas in_front rest)
    else if byte == 0x0A then row_ends rest
    else with_byte byte (read_commas in_bare rest)
read_commas in_quoted (byte ∷ rest) =
    if byte == 0x22 then read_commas behind_quote rest
    else with_byte byte (read_commas in_quoted rest)
read_commas behind_quote (byte ∷ rest) =
    if byte == 0x22 then with_byte 0x22 (read_commas in_quoted rest)
    else if byte == 0x2C then cell_ends (read_commas in_front rest)
    else if byte == 0x0A then row_ends rest
    else with_byte byte (read_commas in_bare rest)

-- cells between tabs that have no tab and no line feed
abbrev pub read_canonical : List ℕ → Read
read_canonical [] = row_ends []
read_canonical (byte ∷ rest) =
    if byte == 0x09 then cell_ends (read_canonical rest)
    else if byte == 0x0A then row_ends rest
    else with_byte byte (read_canonical rest)

-- a row in front of other bytes
abbrev pub read_row : Table → List ℕ → Read
read_row tables.Tabs text = read_tabs false text
read_row tables.Commas text = read_commas in_front text
read_row tables.Canonical text = read_canonical text

-- a tab or a line feed
abbrev pub ends_canonical : ℕ → Bool
ends_canonical byte = byte == 0x09 || byte == 0x0A

-- The table may have a cell with this text: with any, but where none is escaped with one without tab and line feed.
abbrev pub MayStand : Table → List ℕ → Type 0
MayStand tables.Tabs text = ⊤
MayStand tables.Commas text = ⊤
MayStand tables.Canonical text = list_any ends_canonical text ≡ false

-- it may have such a row
abbrev pub AllMayStand : Table → List Cell → Type 0
AllMayStand table [] = ⊤
AllMayStand table (cell ∷ others) = MayStand table cell.text × AllMayStand table others

-- a cell stands in quotes: only between commas
abbrev pub has_quotes : Table → Cell → Bool
has_quotes tables.Tabs cell = false
has_quotes tables.Commas cell = is_quoted cell
has_quotes tables.Canonical cell = false

-- a cell as it is read
abbrev pub as_read : Table → Cell → ReadCell
as_read table cell = record { quoted = has_quotes table cell; text = cell.text }

-- A row leads back to its cells and to where it ends, whatever its cells have in them and whatever follows. So a table does to
-- all of its rows.
abbrev pub RowsLeadBack : Type 0
RowsLeadBack = (table : Table) (cell : Cell) (others : List Cell) (rest : List ℕ) → AllMayStand table (cell ∷ others)
    → read_row table ((joined table (cell ∷ others) ++ line_feed) ++ rest)
    ≡ record { cell = as_read table cell; others = map (as_read table) others; rest = rest }

-- What a cell between commas has, as one takes it that is read: without quotes nothing, a literal or else a string; in quotes
-- an array or an object where it begins as one, and else a string.
abbrev pub kind_read : ReadCell → CellKind
kind_read cell =
    if cell.quoted then (if begins_structure cell.text then kinds.Structure else kinds.Text)
    else if length cell.text == 0 then kinds.Nothing
    else if is_literal cell.text then kinds.Bare
    else kinds.Text

-- the text is one of what the cell has
abbrev pub HasText : CellKind → List ℕ → Type 0
HasText kinds.Nothing text = text ≡ []
HasText kinds.Bare text = is_literal text ≡ true
HasText kinds.Text text = ⊤
HasText kinds.Structure text = begins_structure text ≡ true

-- what is kept of what a cell has: all, but that a string in quotes that begins as an array or an object is taken for one
abbrev pub kind_kept : Cell → CellKind
kind_kept cell = if is_quoted cell && begins_structure cell.text then kinds.Structure else cell.kind

-- A cell between commas leads back to what it has.
abbrev pub KindsLeadBack : Type 0
KindsLeadBack = (cell : Cell) → HasText cell.kind cell.text → kind_read (as_read tables.Commas cell) ≡ kind_kept cell
