-- The start of the row, the mark, the word of the fault, and the line feed follow one another.
use Rattle.std.proofs.Common.{◌≡◌, ◌∙◌, codes}
use Rattle.jp_model.specs.Rows.{line_feed, line_fault_word}
use Rattle.jp_devices.proofs.Chains.{both_received, part_more, part_behind, ends_behind, ends_in_part}
use Rattle.jp_rows.proofs.rows.write_refusal.Goals as goal

pub returns-in_err-write_whole-clause-text : goal.returns-in_err-write_whole-clause-text
returns-in_err-write_whole-clause-text g c =
    let part = part_behind _ _ _ _ (codes "!") c.in_ok-write_start.ensures.text c.in_err-write_whole.ensures.text in
    let word = part_more _ _ _ (line_fault_word c.args.fault) part in
    ends_in_part c.from_residual-in_err-write_whole.result _ _ _ c.from_residual-in_err-write_whole.ensures.0 (part_more _ _ _ line_feed word)

pub returns-in_err-write_whole-2-clause-text : goal.returns-in_err-write_whole-2-clause-text
returns-in_err-write_whole-2-clause-text g c =
    let word : c.as_bytes.result.now ≡ line_fault_word c.args.fault = c.as_bytes.ensures.value ∙ c.word.ensures in
    let marked = both_received _ _ _ _ (codes "!") c.in_ok-write_start.ensures.text c.in_ok-write_whole.ensures.text in
    let part = rw word at (part_behind _ _ _ _ _ marked c.in_err-write_whole-2.ensures.text) in
    ends_in_part c.from_residual-in_err-write_whole-2.result _ _ _ c.from_residual-in_err-write_whole-2.ensures.0 (part_more _ _ _ line_feed part)

pub returns-clause-text : goal.returns-clause-text
returns-clause-text g c =
    let word : c.as_bytes.result.now ≡ line_fault_word c.args.fault = c.as_bytes.ensures.value ∙ c.word.ensures in
    let marked = both_received _ _ _ _ (codes "!") c.in_ok-write_start.ensures.text c.in_ok-write_whole.ensures.text in
    let written = rw word at (both_received _ _ _ _ _ marked c.in_ok-write_whole-2.ensures.text) in
    ends_behind c.write_whole-3.result _ _ _ _ line_feed written c.write_whole-3.ensures.text
