-- A cell that is written is read.
use Rattle.std.proofs.Common.{inl, inr, ◌≡◌, ◌∙◌, ◌++◌, ◌∷◌, ◌==◌, ◌||◌, [], ℕ, List, Bool, true, false, map, refl, sym, ap, subst, append_assoc, append-nil}
use Rattle.std.specs.Prelude.{flat_map, if◌then◌else◌}
use Rattle.std.specs.List.{list_any}
use Rattle.std.proofs.lemmas.Bool.Decides.{eqb_tells}
use Rattle.std.proofs.lemmas.List.Concat.{flat_map-cons}
use Rattle.jp_model.specs.Rows.{line_feed}
use Rattle.jp_form.specs.declared.form.Table.{Table}
use Rattle.jp_form.specs.declared.form.Table.TheVariants as tables
use Rattle.jp_table.specs.Cells.{Cell, is_quoted, tells_kind, wants_quotes}
use Rattle.jp_table.specs.ReadBack.{AllMayStand, MayStand, Read, ReadCell, as_read, behind_quote, cell_ends, ends_canonical, has_quotes, in_bare, in_front, in_quoted, in_quotes, read_canonical, read_commas, read_row, read_tabs, row_ends, with_byte}
use Rattle.jp_table.specs.Tables.{cell_text, joined, quoted_byte, quoted_text, separator, tabs_byte}
use Rattle.jp_table.proofs.PlainBytes.{differs}

-- bytes of a cell in front of what else is read
abbrev pub with_bytes : List ℕ → Read → Read
with_bytes bytes next = record { cell = record { quoted = next.cell.quoted; text = bytes ++ next.cell.text }; others = next.others; rest = next.rest }

-- the cell stands in quotes, or as it stands
abbrev pub quoted_if : Bool → Read → Read
quoted_if true next = in_quotes next
quoted_if false next = next

tabs_plain : (byte : ℕ) → (byte == 0x09) ≡ false → (byte == 0x0A) ≡ false → (byte == 0x0D) ≡ false → (byte == 0x5C) ≡ false → tabs_byte byte ≡ byte ∷ []
tabs_plain byte tab feed return slash = rw (tab, feed, return, slash) refl

tabs_read : (byte : ℕ) (rest : List ℕ) → (byte == 0x09) ≡ false → (byte == 0x0A) ≡ false → (byte == 0x5C) ≡ false
    → read_tabs false (byte ∷ rest) ≡ with_byte byte (read_tabs false rest)
tabs_read byte rest tab feed slash = rw (tab, feed, slash) refl

tabs_one : (byte : ℕ) (rest : List ℕ) → read_tabs false (tabs_byte byte ++ rest) ≡ with_byte byte (read_tabs false rest)
tabs_one byte rest = elim (eqb_tells byte 0x09) [
  | inl e ↦ by 0x09 e.1 refl
  | inr tab ↦ elim (eqb_tells byte 0x0A) [
    | inl e ↦ by 0x0A e.1 refl
    | inr feed ↦ elim (eqb_tells byte 0x0D) [
      | inl e ↦ by 0x0D e.1 refl
      | inr return ↦ elim (eqb_tells byte 0x5C) [
        | inl e ↦ by 0x5C e.1 refl
        | inr slash ↦ ap (λ l. read_tabs false (l ++ rest)) (tabs_plain byte tab.0 feed.0 return.0 slash.0) ∙ tabs_read byte rest tab.0 feed.0 slash.0
      ]
    ]
  ]
]
  where
    by : (special : ℕ) → byte ≡ special → read_tabs false (tabs_byte special ++ rest) ≡ with_byte special (read_tabs false rest)
        → read_tabs false (tabs_byte byte ++ rest) ≡ with_byte byte (read_tabs false rest)
    by special e p = subst (λ b. read_tabs false (tabs_byte b ++ rest) ≡ with_byte b (read_tabs false rest)) (sym e) p

tabs_cell : (cell rest : List ℕ) → read_tabs false (flat_map tabs_byte cell ++ rest) ≡ with_bytes cell (read_tabs false rest)
tabs_cell [] rest = refl
tabs_cell (byte ∷ cell) rest =
    ap (λ l. read_tabs false (l ++ rest)) (flat_map-cons tabs_byte byte cell)
    ∙ ap (read_tabs false) (append_assoc (tabs_byte byte) (flat_map tabs_byte cell) rest)
    ∙ tabs_one byte (flat_map tabs_byte cell ++ rest)
    ∙ ap (with_byte byte) (tabs_cell cell rest)

quoted_plain : (byte : ℕ) → (byte == 0x22) ≡ false → quoted_byte byte ≡ byte ∷ []
quoted_plain byte quote = rw quote refl

quoted_read : (byte : ℕ) (rest : List ℕ) → (byte == 0x22) ≡ false → read_commas in_quoted (byte ∷ rest) ≡ with_byte byte (read_commas in_quoted rest)
quoted_read byte rest quote = rw quote refl

quoted_one : (byte : ℕ) (rest : List ℕ) → read_commas in_quoted (quoted_byte byte ++ rest) ≡ with_byte byte (read_commas in_quoted rest)
quoted_one byte rest = elim (eqb_tells byte 0x22) [
  | inl e ↦ subst (λ b. read_commas in_quoted (quoted_byte b ++ rest) ≡ with_byte b (read_commas in_quoted rest)) (sym e.1) refl
  | inr other ↦ ap (λ l. read_commas in_quoted (l ++ rest)) (quoted_plain byte other.0) ∙ quoted_read byte rest other.0
]

quoted_bytes : (cell rest : List ℕ) → read_commas in_quoted (flat_map quoted_byte cell ++ rest) ≡ with_bytes cell (read_commas in_quoted rest)
quoted_bytes [] rest = refl
quoted_bytes (byte ∷ cell) rest =
    ap (λ l. read_commas in_quoted (l ++ rest)) (flat_map-cons quoted_byte byte cell)
    ∙ ap (read_commas in_quoted) (append_assoc (quoted_byte byte) (flat_map quoted_byte cell) rest)
    ∙ quoted_one byte (flat_map quoted_byte cell ++ rest)
    ∙ ap (with_byte byte) (quoted_bytes cell rest)

-- a comma or a line feed, after which a row goes on or ends
data Stop : ℕ → Type 0 where
  at_comma : Stop 0x2C
  at_feed : Stop 0x0A

behind_stops : (stop : ℕ) (rest : List ℕ) → Stop stop → read_commas behind_quote (stop ∷ rest) ≡ read_commas in_front (stop ∷ rest)
behind_stops stop rest at_comma = refl
behind_stops stop rest at_feed = refl

bare_stops : (stop : ℕ) (rest : List ℕ) → Stop stop → read_commas in_bare (stop ∷ rest) ≡ read_commas in_front (stop ∷ rest)
bare_stops stop rest at_comma = refl
bare_stops stop rest at_feed = refl

quoted_cell_read : (cell : List ℕ) (stop : ℕ) (rest : List ℕ) → Stop stop → read_commas in_front (quoted_text cell ++ stop ∷ rest) ≡ in_quotes (with_bytes cell (read_commas in_front (stop ∷ rest)))
quoted_cell_read cell stop rest is =
    ap (λ l. in_quotes (read_commas in_quoted l)) (append_assoc (flat_map quoted_byte cell) (0x22 ∷ []) (stop ∷ rest))
    ∙ ap in_quotes (quoted_bytes cell (0x22 ∷ stop ∷ rest))
    ∙ ap (λ (next : Read). in_quotes (with_bytes cell next)) (behind_stops stop rest is)

none_of : (a b : Bool) → (a || b) ≡ false → (a ≡ false) × (b ≡ false)
none_of false b e = (refl, e)
none_of true b e = absurd (cc)

bare_read : (byte : ℕ) (rest : List ℕ) → (byte == 0x2C) ≡ false → (byte == 0x0A) ≡ false → read_commas in_bare (byte ∷ rest) ≡ with_byte byte (read_commas in_bare rest)
bare_read byte rest comma feed = rw (comma, feed) refl

front_read : (byte : ℕ) (rest : List ℕ) → (byte == 0x22) ≡ false → (byte == 0x2C) ≡ false → (byte == 0x0A) ≡ false
    → read_commas in_front (byte ∷ rest) ≡ with_byte byte (read_commas in_bare rest)
front_read byte rest quote comma feed = rw (quote, comma, feed) refl

bare_bytes : (cell : List ℕ) (stop : ℕ) (rest : List ℕ) → Stop stop → list_any wants_quotes cell ≡ false
    → read_commas in_bare (cell ++ stop ∷ rest) ≡ with_bytes cell (read_commas in_front (stop ∷ rest))
bare_bytes [] stop rest is bare = bare_stops stop rest is
bare_bytes (byte ∷ cell) stop rest is bare =
    let both = none_of (wants_quotes byte) (list_any wants_quotes cell) bare in
    bare_read byte (cell ++ stop ∷ rest) (differs wants_quotes byte 0x2C refl both.0) (differs wants_quotes byte 0x0A refl both.0)
    ∙ ap (with_byte byte) (bare_bytes cell stop rest is both.1)

bare_cell_read : (cell : List ℕ) (stop : ℕ) (rest : List ℕ) → Stop stop → list_any wants_quotes cell ≡ false
    → read_commas in_front (cell ++ stop ∷ rest) ≡ with_bytes cell (read_commas in_front (stop ∷ rest))
bare_cell_read [] stop rest is bare = refl
bare_cell_read (byte ∷ cell) stop rest is bare =
    let both = none_of (wants_quotes byte) (list_any wants_quotes cell) bare in
    front_read byte (cell ++ stop ∷ rest) (differs wants_quotes byte 0x22 refl both.0) (differs wants_quotes byte 0x2C refl both.0) (differs wants_quotes byte 0x0A refl both.0)
    ∙ ap (with_byte byte) (bare_bytes cell stop rest is both.1)

commas_cell : (cell : Cell) (stop : ℕ) (rest : List ℕ) → Stop stop
    → read_commas in_front (cell_text tables.Commas cell ++ stop ∷ rest) ≡ quoted_if (is_quoted cell) (with_bytes cell.text (read_commas in_front (stop ∷ rest)))
commas_cell cell stop rest is = by (is_quoted cell) refl
  where
    by : (quoted : Bool) → is_quoted cell ≡ quoted
        → read_commas in_front ((if quoted then quoted_text cell.text else cell.text) ++ stop ∷ rest) ≡ quoted_if quoted (with_bytes cell.text (read_commas in_front (stop ∷ rest)))
    by true e = quoted_cell_read cell.text stop rest is
    by false e = bare_cell_read cell.text stop rest is (none_of (tells_kind cell.kind cell.text) (list_any wants_quotes cell.text) e).1

canonical_read : (byte : ℕ) (rest : List ℕ) → (byte == 0x09) ≡ false → (byte == 0x0A) ≡ false → read_canonical (byte ∷ rest) ≡ with_byte byte (read_canonical rest)
canonical_read byte rest tab feed = rw (tab, feed) refl

canonical_cell : (cell rest : List ℕ) → list_any ends_canonical cell ≡ false → read_canonical (cell ++ rest) ≡ with_bytes cell (read_canonical rest)
canonical_cell [] rest stands = refl
canonical_cell (byte ∷ cell) rest stands =
    let both = none_of (ends_canonical byte) (list_any ends_canonical cell) stands in
    canonical_read byte (cell ++ rest) (differs ends_canonical byte 0x09 refl both.0) (differs ends_canonical byte 0x0A refl both.0)
    ∙ ap (with_byte byte) (canonical_cell cell rest both.1)

-- a cell in front of others, and the last one
cell_goes_on : (table : Table) (cell : Cell) (rest : List ℕ) → MayStand table cell.text
    → read_row table (cell_text table cell ++ separator table ∷ rest) ≡ quoted_if (has_quotes table cell) (with_bytes cell.text (cell_ends (read_row table rest)))
cell_goes_on tables.Tabs cell rest stands = tabs_cell cell.text (0x09 ∷ rest)
cell_goes_on tables.Commas cell rest stands = commas_cell cell 0x2C rest at_comma
cell_goes_on tables.Canonical cell rest stands = canonical_cell cell.text (0x09 ∷ rest) stands

last_cell : (table : Table) (cell : Cell) (rest : List ℕ) → MayStand table cell.text
    → read_row table (cell_text table cell ++ 0x0A ∷ rest) ≡ quoted_if (has_quotes table cell) (with_bytes cell.text (row_ends rest))
last_cell tables.Tabs cell rest stands = tabs_cell cell.text (0x0A ∷ rest)
last_cell tables.Commas cell rest stands = commas_cell cell 0x0A rest at_feed
last_cell tables.Canonical cell rest stands = canonical_cell cell.text (0x0A ∷ rest) stands

-- what is read of a cell that ended
ended_cell : (quoted : Bool) (text rest : List ℕ) (others : List ReadCell)
    → quoted_if quoted (with_bytes text (record { cell = record { quoted = false; text = [] }; others = others; rest = rest }))
    ≡ record { cell = record { quoted = quoted; text = text }; others = others; rest = rest }
ended_cell true text rest others = ap (λ (l : List ℕ). record { cell = record { quoted = true; text = l }; others = others; rest = rest }) (append-nil text)
ended_cell false text rest others = ap (λ (l : List ℕ). record { cell = record { quoted = false; text = l }; others = others; rest = rest }) (append-nil text)

-- a row is read
pub row_leads_back : (table : Table) (cell : Cell) (others : List Cell) (rest : List ℕ) → AllMayStand table (cell ∷ others)
    → read_row table ((joined table (cell ∷ others) ++ line_feed) ++ rest)
    ≡ record { cell = as_read table cell; others = map (as_read table) others; rest = rest }
row_leads_back table cell [] rest stand =
    ap (read_row table) (append_assoc (cell_text table cell) line_feed rest)
    ∙ last_cell table cell rest stand.0
    ∙ ended_cell (has_quotes table cell) cell.text rest []
row_leads_back table cell (next ∷ others) rest stand =
    let first = cell_text table cell in
    let more = joined table (next ∷ others) in
    let marked = separator table ∷ more in
    ap (λ l. read_row table (l ++ rest)) (append_assoc first marked line_feed)
    ∙ ap (read_row table) (append_assoc first (marked ++ line_feed) rest)
    ∙ cell_goes_on table cell ((more ++ line_feed) ++ rest) stand.0
    ∙ ap (λ (back : Read). quoted_if (has_quotes table cell) (with_bytes cell.text (cell_ends back))) (row_leads_back table next others rest stand.1)
    ∙ ended_cell (has_quotes table cell) cell.text rest (as_read table next ∷ map (as_read table) others)
