-- The text of a tally: a row for each entry (profile).
use Rattle.std.specs.Prelude.{true, false, ◌≡◌, ℕ, ◌-◌, List, [], ◌∷◌, ◌++◌, map, flat_map, length, codes, decimal, slice_index, slice_range, encode_utf8_all, Bool, ◌&&◌, ◌||◌, ◌==◌, nat_le, Option, Some, None, Result, Ok, Err, if◌then◌else◌}
use Rattle.jp_devices.specs.Devices.{Begins, Device, Received}
use Rattle.jp_form.specs.declared.form.Table.{Table}
use Rattle.jp_form.specs.declared.form.Table.TheVariants as tables
use Rattle.jp_model.specs.Rows.{line_feed}
use Rattle.jp_strings.specs.Points.{is_text_from, points_of}
use Rattle.jp_table.specs.Cells.{Cell, bare_cell, text_cell}
use Rattle.jp_table.specs.Tables.{joined}
use Rattle.jp_table.specs.declared.cell.CellKind.{CellKind}
use Rattle.jp_table.specs.declared.cell.CellKind.TheVariants as kinds
use Rattle.jp_tally.specs.Tallies.{Entry, IsTally}
use Rattle.jp_tally.specs.declared.fault.TallyFault.{TallyFault}
use Rattle.jp_tally.specs.declared.fault.TallyFault.TheVariants as faults

-- the cells of a row that begins with these bytes: tabs part them
abbrev pub cells_behind : List ℕ → List ℕ → List (List ℕ)
cells_behind front [] = front ∷ []
cells_behind front (byte ∷ more) = if byte == 0x09 then front ∷ cells_behind [] more else cells_behind (front ++ byte ∷ []) more

abbrev pub cells_of : List ℕ → List (List ℕ)
cells_of row = cells_behind [] row

-- what stands between the first byte and the last one
abbrev pub body_in : List ℕ → List ℕ
body_in text = slice_range text 1 (length text - 1)

-- a text is that of a string: quotes, and a body between them (RFC 8259, section 7)
abbrev pub is_string : List ℕ → Bool
is_string text = nat_le 2 (length text) && slice_index text 0 == 0x22 && slice_index text (length text - 1) == 0x22 && is_text_from (body_in text) 0

-- what another text has: an array or an object begins with a bracket (RFC 8259, section 2)
abbrev pub other_kind : List ℕ → CellKind
other_kind [] = kinds.Nothing
other_kind (byte ∷ more) = if byte == 0x5B || byte == 0x7B then kinds.Structure else kinds.Bare

-- the cell of a value by its canonical text: a string by its characters, and any other value by the text itself
abbrev pub plain_cell : List ℕ → Cell
plain_cell text =
    if is_string text then text_cell (encode_utf8_all (points_of (body_in text)))
    else record { kind = other_kind text; text = text }

-- the same, or the canonical text itself where it is wanted
abbrev pub shown_cell : Table → List ℕ → Cell
shown_cell tables.Canonical text = bare_cell text
shown_cell tables.Tabs text = plain_cell text
shown_cell tables.Commas text = plain_cell text

-- the row of an entry: how often it came, and its cells
abbrev pub entry_text : Table → Entry → List ℕ
entry_text table entry = joined table (bare_cell (decimal entry.count) ∷ map (shown_cell table) (cells_of entry.row)) ++ line_feed

-- the row above the others, where there are names of columns
abbrev pub names_text : Table → Option (List (List ℕ)) → List ℕ
names_text table None = []
names_text table (Some names) = joined table (bare_cell (codes "count") ∷ map bare_cell names) ++ line_feed

-- the text of a tally
abbrev pub tally_text : Table → Option (List (List ℕ)) → List Entry → List ℕ
tally_text table names tally = names_text table names ++ flat_map (entry_text table) tally

-- The writer received the text of the tally of rows; a beginning of it where a write failed; and nothing where memory was
-- refused.
abbrev pub WritesTally : {W A : Type 0} → (W → Option (List ℕ)) → Device W → Device W → Result A TallyFault → List (List ℕ) → Table → Option (List (List ℕ)) → Type 0
WritesTally contents old new (Ok done) rows table names = (tally : List Entry) × IsTally rows tally × Received contents old new (tally_text table names tally)
WritesTally contents old new (Err faults.Write) rows table names =
    (tally : List Entry) × (part : List ℕ) × IsTally rows tally × Begins part (tally_text table names tally) × Received contents old new part
WritesTally contents old new (Err faults.Memory) rows table names = new ≡ old

-- a write failed
abbrev pub is_write_fault : {A : Type 0} → Result A TallyFault → Bool
is_write_fault (Ok done) = false
is_write_fault (Err faults.Write) = true
is_write_fault (Err faults.Memory) = false
