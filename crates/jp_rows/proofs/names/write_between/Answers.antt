-- The name follows the first mark, and the other mark follows it.
use Rattle.jp_rows.specs.Names.{name_text, scalars_of}
use Rattle.jp_devices.proofs.Chains.{both_received, part_more, part_behind, ends_behind, ends_in_part}
use Rattle.jp_rows.proofs.names.write_between.Goals as goal

pub returns-in_err-write_whole-clause-text : goal.returns-in_err-write_whole-clause-text
returns-in_err-write_whole-clause-text g c =
    let part = part_more _ _ c.args.front.now (name_text (scalars_of c.args.name)) c.in_err-write_whole.ensures.text in
    ends_in_part c.from_residual.result _ _ _ c.from_residual.ensures.0 (part_more _ _ _ c.args.back.now part)

pub returns-in_err-write_name-clause-text : goal.returns-in_err-write_name-clause-text
returns-in_err-write_name-clause-text g c =
    let part = part_behind _ _ _ c.args.front.now (name_text (scalars_of c.args.name)) c.in_ok-write_whole.ensures.text c.in_err-write_name.ensures.text in
    ends_in_part c.from_residual-in_err-write_name.result _ _ _ c.from_residual-in_err-write_name.ensures.0 (part_more _ _ _ c.args.back.now part)

pub returns-clause-text : goal.returns-clause-text
returns-clause-text g c =
    let written = both_received _ _ _ c.args.front.now (name_text (scalars_of c.args.name)) c.in_ok-write_whole.ensures.text c.in_ok-write_name.ensures.text in
    ends_behind c.write_whole-2.result _ _ _ _ c.args.back.now written c.write_whole-2.ensures.text
