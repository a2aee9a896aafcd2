-- A row of a table, cell by cell.
use Rattle.std.proofs.Common.{◌≡◌, ◌∙◌, ◌++◌, ◌∷◌, [], List, refl, sym, ap, append_assoc, append-nil, false}
use Rattle.std.specs.Prelude.{if◌then◌else◌}
use Rattle.jp_form.specs.declared.form.Table.{Table}
use Rattle.jp_table.specs.Cells.{Cell}
use Rattle.jp_table.specs.Held.{Holds, has_none}
use Rattle.jp_table.specs.Tables.{cell_text, joined, separator}
use Rattle.jp_table.specs.declared.row.TableRow.{TableRow}

-- a cell more is parted from those before it
joined_more : (table : Table) (cells : List Cell) (cell : Cell)
    → joined table (cells ++ cell ∷ []) ≡ (joined table cells ++ (if has_none cells then [] else separator table ∷ [])) ++ cell_text table cell
joined_more table [] cell = refl
joined_more table (c ∷ []) cell = sym (append_assoc (cell_text table c) (separator table ∷ []) (cell_text table cell))
joined_more table (c ∷ d ∷ rest) cell =
    let first = cell_text table c in
    let others = separator table ∷ joined table (d ∷ rest) in
    let mark = separator table ∷ [] in
    let last = cell_text table cell in
    ap (λ l. first ++ separator table ∷ l) (joined_more table (d ∷ rest) cell)
    ∙ sym (append_assoc first (others ++ mark) last)
    ∙ ap (λ l. l ++ last) (sym (append_assoc first others mark))

some_cell : (cells : List Cell) (cell : Cell) → has_none (cells ++ cell ∷ []) ≡ false
some_cell [] cell = refl
some_cell (c ∷ rest) cell = refl

pub holds_more : (table : Table) (old new : TableRow) (cells : List Cell) (cell : Cell) → Holds table old cells
    → new.text.items ≡ (old.text.items ++ (if old.is_empty then [] else separator table ∷ [])) ++ cell_text table cell → new.is_empty ≡ false
    → Holds table new (cells ++ cell ∷ [])
holds_more table old new cells cell holds text begun = record {
  text = text
      ∙ ap (λ none. (old.text.items ++ (if none then [] else separator table ∷ [])) ++ cell_text table cell) holds.first
      ∙ ap (λ l. (l ++ (if has_none cells then [] else separator table ∷ [])) ++ cell_text table cell) holds.text
      ∙ sym (joined_more table cells cell);
  first = begun ∙ sym (some_cell cells cell);
}

-- no cell more
pub holds_same : (table : Table) (row : TableRow) (cells : List Cell) → Holds table row cells → Holds table row (cells ++ [])
holds_same table row cells holds = record {
  text = holds.text ∙ ap (joined table) (sym (append-nil cells));
  first = holds.first ∙ ap has_none (sym (append-nil cells));
}
