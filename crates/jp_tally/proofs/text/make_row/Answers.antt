-- The count, and then the cells.
use Rattle.std.proofs.Common.{◌≡◌, ◌∙◌, subst, ◌++◌, ◌∷◌, [], OnOk, map, decimal}
use Rattle.jp_model.specs.Rows.{line_feed}
use Rattle.jp_table.specs.Cells.{bare_cell}
use Rattle.jp_table.specs.Held.{row_bytes}
use Rattle.jp_table.specs.Tables.{joined}
use Rattle.jp_tally.specs.Texts.{cells_of, shown_cell}
use Rattle.jp_tally.proofs.text.make_row.Goals as goal

pub returns : goal.returns
returns c =
    let table = c.args.table in let digits = c.as_bytes.result.now in
    let rest = map (shown_cell table) (cells_of c.args.entry.row.now) in
    let is : digits ≡ decimal c.args.entry.count.0 = c.as_bytes.ensures.value ∙ c.format.ensures.text in
    subst (λ text. OnOk c.end.result (row_bytes c.end.new.self ≡ joined table (bare_cell text ∷ rest) ++ line_feed)) is
    (c.end.ensures table ((bare_cell digits ∷ []) ++ rest) (c.in_ok-add_cells.ensures (bare_cell digits ∷ []) c.in_ok-begin_row.ensures))
