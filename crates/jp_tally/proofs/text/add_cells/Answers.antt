-- Each turn adds the first cell that is left, and the last call the last one.
use Rattle.std.proofs.Common.{◌≡◌, ◌∙◌, ap, sym, subst, ◌++◌, ◌∷◌, [], List, OnOk, map}
use Rattle.jp_table.specs.Cells.{Cell}
use Rattle.jp_table.specs.Held.{Holds}
use Rattle.jp_tally.specs.Texts.{cells_of, shown_cell}
use Rattle.jp_tally.proofs.Listing.{listed_more}
use Rattle.jp_tally.proofs.text.add_cells.Goals as goal
use Rattle.std.specs.Prelude.{refl}

pub loop-cell-preserved : goal.loop-cell-preserved
loop-cell-preserved c before held =
    let table = c.args.table in
    let old = c.loop-cell.invariant before held in
    let first = shown_cell table c.in-Some.cell.now in (
      old.0 ++ first ∷ [],
      c.in_ok-add_shown.ensures old.0 old.1,
      listed_more old.0 (old.0 ++ first ∷ []) first (map (shown_cell table) (cells_of c.loop-cell.rest.now)) (map (shown_cell table) (cells_of c.in-Some.more.now)) _ old.2
          (ap (map (shown_cell table)) c.in-Some.ensures.cells) refl,
    )

pub returns : goal.returns
returns c before held =
    let table = c.args.table in
    let old = c.loop-cell.invariant before held in
    let all : old.0 ++ shown_cell table c.loop-cell.rest.now ∷ [] ≡ before ++ map (shown_cell table) (cells_of c.args.cells.now) =
    ap (λ l. old.0 ++ map (shown_cell table) l) (sym c.in_default.ensures.cells) ∙ old.2 in
    subst (λ (cells : List Cell). OnOk c.add_shown-2.result (Holds table c.add_shown-2.new.row cells)) all (c.add_shown-2.ensures old.0 old.1)
