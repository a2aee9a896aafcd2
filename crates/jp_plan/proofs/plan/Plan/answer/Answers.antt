-- The rows by line, one by one.
use Rattle.jp_plan.specs.PlanViews.{plan_of}
use Rattle.jp_plan.proofs.plan.Plan.answer.Goals as goal

pub returns-clause-lines : goal.returns-clause-lines
returns-clause-lines c = c.in_ok-rows-2.ensures.lines (plan_of c.args.self.now).over.state.lines c.in_ok-rows.ensures.lines
