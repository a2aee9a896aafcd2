-- The pieces follow one another.
use Rattle.std.proofs.Common.{◌++◌, codes, sym, subst}
use Rattle.jp_devices.specs.Devices.{Writes}
use Rattle.jp_devices.proofs.Chains.{part_more, part_behind, ends_behind, ends_in_part}
use Rattle.jp_rows.proofs.Summaries.{counted, summary_is}
use Rattle.jp_rows.proofs.summary.write_summary.Goals as goal

pub returns-in_err-write_counted-clause-text : goal.returns-in_err-write_counted-clause-text
returns-in_err-write_counted-clause-text g c =
    subst (λ t. Writes g.W.Write.contents c.args.out.now c.write_counted.new.out c.from_residual.result t) (sym (summary_is c.args.lines c.args.refused c.args.blank))
    (ends_in_part c.from_residual.result _ _ _ c.from_residual.ensures.0
    (part_more _ _ (counted (codes "= ") c.args.lines) (counted (codes " lines, ") c.args.refused ++ (counted (codes " refused, ") c.args.blank ++ codes " blank\n")) c.in_err-write_counted.ensures.text))

pub returns-in_err-write_counted-2-clause-text : goal.returns-in_err-write_counted-2-clause-text
returns-in_err-write_counted-2-clause-text g c =
    subst (λ t. Writes g.W.Write.contents c.args.out.now c.write_counted-2.new.out c.from_residual-in_err-write_counted-2.result t) (sym (summary_is c.args.lines c.args.refused c.args.blank))
    (ends_in_part c.from_residual-in_err-write_counted-2.result _ _ _ c.from_residual-in_err-write_counted-2.ensures.0
    (part_behind _ _ _ (counted (codes "= ") c.args.lines) (counted (codes " lines, ") c.args.refused ++ (counted (codes " refused, ") c.args.blank ++ codes " blank\n")) c.in_ok-write_counted.ensures.text (part_more _ _ (counted (codes " lines, ") c.args.refused) (counted (codes " refused, ") c.args.blank ++ codes " blank\n") c.in_err-write_counted-2.ensures.text)))

pub returns-in_err-write_counted-3-clause-text : goal.returns-in_err-write_counted-3-clause-text
returns-in_err-write_counted-3-clause-text g c =
    subst (λ t. Writes g.W.Write.contents c.args.out.now c.write_counted-3.new.out c.from_residual-in_err-write_counted-3.result t) (sym (summary_is c.args.lines c.args.refused c.args.blank))
    (ends_in_part c.from_residual-in_err-write_counted-3.result _ _ _ c.from_residual-in_err-write_counted-3.ensures.0
    (part_behind _ _ _ (counted (codes "= ") c.args.lines) (counted (codes " lines, ") c.args.refused ++ (counted (codes " refused, ") c.args.blank ++ codes " blank\n")) c.in_ok-write_counted.ensures.text
    (part_behind _ _ _ (counted (codes " lines, ") c.args.refused) (counted (codes " refused, ") c.args.blank ++ codes " blank\n") c.in_ok-write_counted-2.ensures.text (part_more _ _ (counted (codes " refused, ") c.args.blank) (codes " blank\n") c.in_err-write_counted-3.ensures.text))))

pub returns-clause-text : goal.returns-clause-text
returns-clause-text g c =
    subst (λ t. Writes g.W.Write.contents c.args.out.now c.write_whole.new.out c.write_whole.result t) (sym (summary_is c.args.lines c.args.refused c.args.blank))
    (ends_behind c.write_whole.result _ _ _ (counted (codes "= ") c.args.lines) (counted (codes " lines, ") c.args.refused ++ (counted (codes " refused, ") c.args.blank ++ codes " blank\n")) c.in_ok-write_counted.ensures.text
    (ends_behind c.write_whole.result _ _ _ (counted (codes " lines, ") c.args.refused) (counted (codes " refused, ") c.args.blank ++ codes " blank\n") c.in_ok-write_counted-2.ensures.text
    (ends_behind c.write_whole.result _ _ _ (counted (codes " refused, ") c.args.blank) (codes " blank\n") c.in_ok-write_counted-3.ensures.text c.write_whole.ensures.text)))
