-- The rows so far are followed by those of the lines that are left.
use Rattle.std.proofs.Common.{drop}
use Rattle.jp_plan.specs.ByLine.{found_in}
use Rattle.jp_plan.proofs.ByLine.{IsGone}
use Rattle.jp_plan.proofs.rows.Rows.one_by_one.Given as goal

abbrev pub invariant-loop-of_line : goal.invariant-loop-of_line
invariant-loop-of_line l = IsGone (found_in l.self) (drop l.of_line-index l.self.lines.items) l.places l.rows.items
