-- What parts it from the cells before, and the cell.
use Rattle.std.proofs.Common.{◌∙◌, ◌++◌, ap}
use Rattle.std.proofs.lemmas.Result.{on_ok_weaker}
use Rattle.jp_table.specs.Tables.{cell_text}
use Rattle.jp_table.proofs.Adding.{holds_more}
use Rattle.jp_table.proofs.row.TableRow.add.Goals as goal

pub returns : goal.returns
returns c = λ cells holds. on_ok_weaker c.append_cell.result
    (λ text. holds_more c.args.table c.args.self.now _ cells (record { kind = c.args.kind; text = c.args.cell.now }) holds
    (text ∙ ap (λ l. l ++ cell_text c.args.table (record { kind = c.args.kind; text = c.args.cell.now })) c.in_ok-part.ensures.text) c.in_ok-part.ensures.begun)
    c.append_cell.ensures
