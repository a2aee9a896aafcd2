use Rattle.std.proofs.Common.{◌≡◌, length, ap, sym, ◌∙◌, arith, refl, Some, option_map, List, ℕ, slice_range}
use Rattle.std.proofs.lemmas.List.{length-map}
use Rattle.std.proofs.lemmas.Option.{slice_get-map, slice_get_read}
use Rattle.jp_masks.specs.Written.{written}
use Rattle.jp_masks.specs.Found.{found, line_of}
use Rattle.jp_masks.specs.declared.lines.Marks.{Marks}
use Rattle.jp_masks.proofs.RowsLaw.{row_there}
use Rattle.jp_masks.proofs.lines.Marks.line.Goals as goal

rows_found : (m : Marks) → length (found m) ≡ length m.rows.items
unfolding found
rows_found m = length-map m.rows.items (line_of (written m.positions))

pub index-row-requires : goal.index-row-requires
index-row-requires c = omega (arith, c.requires, rows_found c.args.self.now)

pub part-requires : goal.part-requires
part-requires c =
    let m = c.args.self.now in
    let there = row_there m.rows.items (length (written m.positions)) c.args.k c.index-row.result.now m.in_positions (omega (arith, c.requires, rows_found m)) c.index-row.ensures in
    record { order = there.0; within = omega (arith, there.1, ap length c.as_slice.ensures) }

pub returns : goal.returns
unfolding found
returns c =
    let m = c.args.self.now in
    slice_get-map (line_of (written m.positions)) m.rows.items c.args.k
    ∙ ap (option_map (line_of (written m.positions))) (slice_get_read m.rows.items (length m.rows.items) c.args.k c.index-row.result.now refl (omega (arith, c.requires, rows_found m)) c.index-row.ensures)
    ∙ ap (λ (positions : List ℕ). Some (record { start = c.index-row.result.now.start; end = c.index-row.result.now.end; positions = positions }))
    (sym (c.part.ensures ∙ ap (λ (positions : List ℕ). slice_range positions c.index-row.result.now.positions_start c.index-row.result.now.positions_end) c.as_slice.ensures))
