-- The line feed follows the number.
use Rattle.std.proofs.Common.{◌++◌, decimal}
use Rattle.jp_model.specs.Rows.{line_feed}
use Rattle.jp_devices.proofs.Chains.{ends_behind, ends_in_part, part_more}
use Rattle.jp_rows.proofs.summary.write_numbered.Goals as goal

pub returns-clause-text : goal.returns-clause-text
returns-clause-text g c =
    ends_behind c.write_whole.result _ _ _ (c.args.words.now ++ decimal c.args.number) line_feed c.in_ok-write_counted.ensures.text c.write_whole.ensures.text

pub returns-in_err-write_counted-clause-text : goal.returns-in_err-write_counted-clause-text
returns-in_err-write_counted-clause-text g c =
    ends_in_part c.from_residual.result _ _ _ c.from_residual.ensures.0 (part_more _ _ (c.args.words.now ++ decimal c.args.number) line_feed c.in_err-write_counted.ensures.text)
