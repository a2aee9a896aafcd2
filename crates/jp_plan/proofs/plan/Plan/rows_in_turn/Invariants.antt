-- The rows so far are those of the lines that were told; what is left is told in turn.
use Rattle.std.proofs.Common.{◌≡◌, ◌+◌, ◌≤◌, length}
use Rattle.jp_store.specs.Collections.{statuses_in}
use Rattle.jp_plan.specs.ByLine.{found_rows, IsInTurn, AreOfTheirLines}
use Rattle.jp_plan.specs.Turns.{IsLeft}
use Rattle.jp_plan.specs.PlanViews.{plan_of}
use Rattle.jp_plan.proofs.plan.Plan.rows_in_turn.Given as goal

abbrev pub invariant-loop-turn : goal.invariant-loop-turn
invariant-loop-turn l = record {
  left : IsLeft (plan_of l.self).query (plan_of l.self).over.state.paths (statuses_in (plan_of l.self).over) l.to_open l.to_refuse (found_rows l.rows);
  turn : IsInTurn l.rows;
  on_lines : AreOfTheirLines (plan_of l.self).over.state.lines l.rows;
  counted : l.opened + length l.to_open ≡ l.fn.opened + length l.lines;
  added : l.fn.opened ≤ l.opened;
}

abbrev pub decreases-loop-turn : goal.decreases-loop-turn
decreases-loop-turn l = length l.to_open + length l.to_refuse
