-- The words, the number, and the line feed follow one another.
use Rattle.std.proofs.Common.{◌≡◌, ◌∙◌, decimal, codes}
use Rattle.jp_model.specs.Rows.{line_feed}
use Rattle.jp_devices.proofs.Chains.{both_received, part_more, part_behind, ends_behind, ends_in_part}
use Rattle.jp_rows.proofs.rows.write_count.Goals as goal

pub returns-in_err-write_whole-2-clause-text : goal.returns-in_err-write_whole-2-clause-text
returns-in_err-write_whole-2-clause-text g c =
    let number : c.as_bytes.result.now ≡ decimal c.args.count = c.as_bytes.ensures.value ∙ c.format.ensures.text in
    let part = rw number at (part_behind _ _ _ (codes "= ") _ c.in_ok-write_whole.ensures.text c.in_err-write_whole-2.ensures.text) in
    ends_in_part c.from_residual-in_err-write_whole-2.result _ _ _ c.from_residual-in_err-write_whole-2.ensures.0 (part_more _ _ _ line_feed part)

pub returns-clause-text : goal.returns-clause-text
returns-clause-text g c =
    let number : c.as_bytes.result.now ≡ decimal c.args.count = c.as_bytes.ensures.value ∙ c.format.ensures.text in
    let written = rw number at (both_received _ _ _ _ _ c.in_ok-write_whole.ensures.text c.in_ok-write_whole-2.ensures.text) in
    ends_behind c.write_whole-3.result _ _ _ _ _ written c.write_whole-3.ensures.text
