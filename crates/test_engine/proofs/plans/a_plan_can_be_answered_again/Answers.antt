-- The plan opens no more lines than there are.
use Rattle.std.proofs.Common.{length, ap, arith}
use Rattle.jp_store.specs.Collections.{Collection}
use Rattle.jp_plan.specs.Planned.{Planned}
use Rattle.jp_plan.specs.PlanViews.{plan_of}
use Rattle.test_engine.proofs.plans.a_plan_can_be_answered_again.Goals as goal

pub answer-requires : goal.answer-requires
answer-requires g c =
    let few = c.no_more_lines_are_opened.ensures (plan_of c.in_ok-plan.plan) in
    let over = ap (λ (p : Planned). length p.over.state.lines) c.in_ok-plan.ensures in
    let same = ap (λ (s : Collection). length s.state.lines) c.meter-opened.ensures.had in
    omega (arith, few, over, same, c.line_count.ensures, c.meter-opened.ensures.count)
