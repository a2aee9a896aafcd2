-- A filter beside another selector gives no guard.
use Rattle.std.proofs.Common.{◌≡◌, ◌∙◌, sym, ap, arith}
use Rattle.jp_model.specs.Plans.{first_guard, only_filter, segment_conjuncts}
use Rattle.jp_syntax.specs.View.{segment_view, selectors_view}
use Rattle.std.proofs.lemmas.Grind.{common_steps}
use Rattle.jp_eval.proofs.Compiled.{child_seen, descendant_seen}
use Rattle.jp_plan.proofs.Guards.{not_alone}
use Rattle.jp_plan.proofs.guard.segment_guard.Goals as goal
use Rattle.jp_plan.proofs.guard.segment_guard.Goals.{in-Child, in-Child-2}

pub returns-in-len2-up-clause-guard : goal.returns-in-len2-up-clause-guard
returns-in-len2-up-clause-guard c =
    let viewed : only_filter (selectors_view c.as_slice.result.now) ≡ segment_conjuncts (segment_view c.args.segment.now) =
    elim c.match-segment.branch [ in-Child w ↦ grind (arith, common_steps, child_seen) | in-Child-2 w ↦ grind (arith, common_steps, descendant_seen) ] in
    ap (first_guard c.args.store.now.state.paths) (sym (not_alone c.as_slice.result.now (λ one. omega (arith, one, c.in-len2-up.len_at_least))) ∙ viewed)
