-- the lines so far are those of the first ones that pass
use Rattle.std.proofs.Common.{◌≡◌, take, Some}
use Rattle.std.specs.Prelude.{filter}
use Rattle.jp_store.specs.Collections.{line_status}
use Rattle.jp_plan.specs.Passing.{seek_status}
use Rattle.jp_plan.specs.Paths.{path_at}
use Rattle.jp_plan.specs.PlanViews.{plan_of}
use Rattle.jp_plan.proofs.plan.Plan.held_to_seek.Given as goal

abbrev pub invariant-loop-line : goal.invariant-loop-line
invariant-loop-line l = l.held.items ≡ filter (λ line. seek_status (path_at (plan_of l.self).over.state.paths (Some l.index)) (line_status line (plan_of l.self).over)) (take l.line-index l.lines)
