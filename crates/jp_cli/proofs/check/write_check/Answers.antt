-- The summary stands after the rows.
use Rattle.std.proofs.Common.{subst, refl}
use Rattle.jp_devices.specs.Devices.{Writes}
use Rattle.jp_devices.proofs.Chains.{ends_behind}
use Rattle.jp_cli.proofs.RefusalsWritten.{refusals_fit, check_text}
use Rattle.jp_cli.proofs.check.write_check.Goals as goal

pub overflow_sub-blank-in-Ok : goal.overflow_sub-blank-in-Ok
overflow_sub-blank-in-Ok g c =
    refusals_fit c.args.store.now c.line_count-lines.result c.tree_count.result c.refused_count-refused.result c.line_count-lines.ensures c.tree_count.ensures
    c.refused_count-refused.ensures

pub returns-in-Ok-clause-text : goal.returns-in-Ok-clause-text
returns-in-Ok-clause-text g c =
    subst (Writes g.W.Write.contents c.args.out.now c.write_summary.new.out c.write_summary.result)
    (check_text c.args.store.now c.line_count-lines.result c.tree_count.result c.refused_count-refused.result c.line_count-lines.ensures c.tree_count.ensures
    c.refused_count-refused.ensures c.args.store.now.framing refl)
    (ends_behind c.write_summary.result _ _ _ _ _ c.in-Ok.ensures.text c.write_summary.ensures.text)
