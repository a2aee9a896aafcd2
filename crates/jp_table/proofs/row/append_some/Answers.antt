-- The bytes of a run stand for themselves.
use Rattle.std.proofs.Common.{arith, ◌∙◌, ◌-◌, ◌++◌, ap, sym, append_assoc, drop}
use Rattle.std.specs.Prelude.{slice_range}
use Rattle.std.proofs.lemmas.Grind.{flat_map-append}
use Rattle.std.proofs.lemmas.List.Folds.{drop_split}
use Rattle.jp_table.specs.Tables.{byte_text, bytes_text}
use Rattle.jp_table.proofs.PlainBytes.{plain_run}
use Rattle.jp_table.proofs.row.append_some.Goals as goal

pub returns-then-at-end-clause-text : goal.returns-then-at-end-clause-text
returns-then-at-end-clause-text c =
    let at = c.args.at in
    let end = c.first_special-end.result in
    let cell = c.args.cell.now in
    let front = c.args.text.now.items in
    let order = c.first_special-end.ensures.order in
    let within = c.first_special-end.ensures.within in
    let run = slice_range cell at end in
    let rest = bytes_text c.args.table (drop end cell) in
    let plain = plain_run c.args.table cell (end - at) at (omega (arith, order, within)) (λ k low high. c.first_special-end.ensures.plain k low (omega (arith, high, order))) in
    ap (λ l. front ++ bytes_text c.args.table l) (drop_split cell at end order)
    ∙ ap (λ l. front ++ l) (flat_map-append (byte_text c.args.table) run (drop end cell) ∙ ap (λ l. l ++ rest) plain)
    ∙ sym (append_assoc front run rest)
    ∙ ap (λ l. l ++ rest) (sym c.in_ok-extend_from_slice.ensures.items)
