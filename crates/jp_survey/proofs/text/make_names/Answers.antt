-- Each call adds the name of a column.
use Rattle.std.proofs.Common.{[], ◌∷◌, codes}
use Rattle.jp_table.specs.Cells.{bare_cell}
use Rattle.jp_survey.specs.Texts.{column_cells}
use Rattle.jp_survey.proofs.text.make_names.Goals as goal

pub returns : goal.returns
returns c =
    let lines = bare_cell (codes "lines") in let nodes = bare_cell (codes "nodes") in let path = bare_cell (codes "path") in
    c.end.ensures c.args.table column_cells (c.in_ok-add-4.ensures (lines ∷ nodes ∷ path ∷ []) (c.in_ok-add-3.ensures (lines ∷ nodes ∷ [])
    (c.in_ok-add-2.ensures (lines ∷ []) (c.in_ok-add.ensures [] (c.clear.ensures c.args.table)))))
