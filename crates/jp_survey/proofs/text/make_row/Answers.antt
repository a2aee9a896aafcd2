-- Each call adds a cell.
use Rattle.std.proofs.Common.{◌≡◌, ◌∙◌, ap, subst, [], ◌∷◌, ◌++◌, List, ℕ, OnOk, decimal}
use Rattle.jp_model.specs.Rows.{line_feed}
use Rattle.jp_table.specs.Cells.{Cell, bare_cell, text_cell}
use Rattle.jp_table.specs.Held.{row_bytes}
use Rattle.jp_table.specs.Tables.{joined}
use Rattle.jp_survey.specs.Entries.{entry_of}
use Rattle.jp_survey.specs.Paths.{kind_text}
use Rattle.jp_survey.specs.Texts.{path_text, told_text}
use Rattle.jp_survey.proofs.text.make_row.Goals as goal

pub returns : goal.returns
returns c =
    let table = c.args.table in let entry = entry_of c.args.entry in
    let made = λ (cells : List Cell). OnOk c.end.result (row_bytes c.end.new.self ≡ joined table cells ++ line_feed) in
    let first = bare_cell (told_text c.args.entry.lines) in
    let nodes = bare_cell c.as_bytes.result.now in let path = text_cell c.deref.result.now in
    let nodes_are : c.as_bytes.result.now ≡ decimal c.args.entry.nodes = c.as_bytes.ensures.value ∙ c.format.ensures.text in
    let path_is : c.deref.result.now ≡ path_text entry.path =
    c.deref.ensures.value ∙ (c.in_ok-append_path.ensures ∙ ap (λ (t : List ℕ). t ++ path_text entry.path) c.clear.ensures.items) in
    subst (λ (d : List ℕ). made (first ∷ bare_cell d ∷ text_cell (path_text entry.path) ∷ bare_cell (kind_text entry.kind) ∷ [])) nodes_are
    (subst (λ (p : List ℕ). made (first ∷ nodes ∷ text_cell p ∷ bare_cell (kind_text entry.kind) ∷ [])) path_is
    (subst (λ (w : List ℕ). made (first ∷ nodes ∷ path ∷ bare_cell w ∷ [])) c.word.ensures
    (c.end.ensures table (first ∷ nodes ∷ path ∷ bare_cell c.word.result.now ∷ []) (c.in_ok-add-3.ensures (first ∷ nodes ∷ path ∷ [])
    (c.in_ok-add-2.ensures (first ∷ nodes ∷ []) (c.in_ok-add.ensures (first ∷ []) (c.in_ok-add_lines.ensures [] (c.clear-2.ensures table))))))))
