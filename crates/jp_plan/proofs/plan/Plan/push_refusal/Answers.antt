-- The row of the line's fault.
use Rattle.jp_store.specs.Collections.{line_status}
use Rattle.jp_plan.specs.ByLine.{found_in}
use Rattle.jp_plan.specs.PlanViews.{plan_of}
use Rattle.jp_plan.proofs.ByLine.{refusal_rows, refusal_of_line}
use Rattle.jp_plan.proofs.Starts.{on_ok}
use Rattle.jp_plan.proofs.plan.Plan.push_refusal.Goals as goal

pub returns-in-Refused-clause-rows : goal.returns-in-Refused-clause-rows
returns-in-Refused-clause-rows c =
    let p = plan_of c.args.self.now in
    on_ok c.push_refusal.result c.push_refusal.ensures.rows
    (λ e. refusal_rows p.query c.args.line (line_status c.args.line p.over) c.in-Refused.fault (found_in c.args.rows.now) (found_in c.push_refusal.new.self) c.in-Refused.ensures e)

pub returns-in-Refused-clause-lines : goal.returns-in-Refused-clause-lines
returns-in-Refused-clause-lines c =
    let p = plan_of c.args.self.now in
    on_ok c.push_refusal.result c.push_refusal.ensures.rows
    (λ e. refusal_of_line p.over.state.lines c.args.line c.in-Refused.fault (found_in c.args.rows.now) (found_in c.push_refusal.new.self) e)
