-- The first tab ends the first cell.
use Rattle.std.proofs.Common.{◌≡◌, ◌∙◌, [], arith, ◌∷◌, ◌+◌, ap, sym, subst, drop, take}
use Rattle.std.specs.Prelude.{suc}
use Rattle.std.proofs.lemmas.List.{take_rest}
use Rattle.memchr.specs.Find.{IsFirstByte, is_byte}
use Rattle.jp_tally.specs.Texts.{cells_of}
use Rattle.jp_tally.proofs.CellCuts.{cell_cut, one_cell}
use Rattle.jp_tally.proofs.cells.cut_cell.Goals as goal

pub returns-in_default-clause-cells : goal.returns-in_default-clause-cells
returns-in_default-clause-cells c = one_cell [] c.args.row.now (subst (IsFirstByte (is_byte 9) c.args.row.now) c.in_default.is c.memchr.ensures)

pub returns-clause-cells : goal.returns-clause-cells
returns-clause-cells c =
    let row = c.args.row.now in let end = c.in-Some.end in let behind : suc end ≡ end + 1 = omega arith in
    cell_cut [] row end (subst (IsFirstByte (is_byte 9) row) c.in-Some.is c.memchr.ensures)
    ∙ ap (λ l. take end row ∷ cells_of l) (ap (λ n. drop n row) behind ∙ sym (take_rest row (end + 1)))
