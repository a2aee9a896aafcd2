-- the lines so far are the first ones with a tree
use Rattle.std.proofs.Common.{◌≡◌, take}
use Rattle.jp_model.specs.Numbered.{numbers_where}
use Rattle.jp_model.specs.Plans.{is_tree}
use Rattle.jp_store.specs.Collections.{statuses_in}
use Rattle.jp_plan.specs.PlanViews.{plan_of}
use Rattle.jp_plan.proofs.plan.Plan.tree_lines.Given as goal

abbrev pub invariant-loop-before : goal.invariant-loop-before
invariant-loop-before l = l.lines.items ≡ numbers_where is_tree 1 (take l.before (statuses_in (plan_of l.self).over))
