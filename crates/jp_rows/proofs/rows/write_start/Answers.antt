-- The start, the number, and the tab follow one another.
use Rattle.std.proofs.Common.{◌≡◌, ◌∙◌, decimal}
use Rattle.jp_model.specs.Rows.{tab}
use Rattle.jp_devices.proofs.Chains.{both_received, part_more, part_behind, ends_behind, ends_in_part}
use Rattle.jp_rows.proofs.rows.write_start.Goals as goal

pub returns-in_err-write_whole-2-clause-text : goal.returns-in_err-write_whole-2-clause-text
returns-in_err-write_whole-2-clause-text g c =
    let number : c.as_bytes.result.now ≡ decimal c.args.line = c.as_bytes.ensures.value ∙ c.format.ensures.text in
    let part = rw (c.row_start.ensures, number) at (part_behind _ _ _ _ _ c.in_ok-write_whole.ensures.text c.in_err-write_whole-2.ensures.text) in
    ends_in_part c.from_residual-in_err-write_whole-2.result _ _ _ c.from_residual-in_err-write_whole-2.ensures.0 (part_more _ _ _ tab part)

pub returns-clause-text : goal.returns-clause-text
returns-clause-text g c =
    let number : c.as_bytes.result.now ≡ decimal c.args.line = c.as_bytes.ensures.value ∙ c.format.ensures.text in
    let written = rw (c.row_start.ensures, number) at (both_received _ _ _ _ _ c.in_ok-write_whole.ensures.text c.in_ok-write_whole-2.ensures.text) in
    ends_behind c.write_whole-3.result _ _ _ _ _ written c.write_whole-3.ensures.text
