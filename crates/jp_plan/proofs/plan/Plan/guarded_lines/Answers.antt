-- The lines that the index gives for the guard are those in which it holds.
use Rattle.std.proofs.Common.{◌≡◌, ◌∙◌, ℕ, List, Some, Option, Global, Vec, sym, ap}
use Rattle.std.proofs.lemmas.Result.{IfOk-weaker}
use Rattle.jp_model.specs.Meaning.Functions.{literal_value}
use Rattle.jp_model.specs.Numbered.{numbers_where}
use Rattle.jp_model.specs.Plans as plans
use Rattle.jp_model.specs.Steps.{Step}
use Rattle.jp_syntax.specs.View.{literal_view, op_view}
use Rattle.jp_index.specs.Entries.{entries_of, lines_where}
use Rattle.jp_store.specs.Collections.{statuses_in}
use Rattle.jp_plan.specs.Passing.{guard_status}
use Rattle.jp_plan.specs.Paths.{guard_at, guard_of_steps}
use Rattle.jp_plan.proofs.Passing.{guarded_are}
use Rattle.jp_plan.proofs.Paths.{there_is}
use Rattle.jp_plan.proofs.plan.Plan.guarded_lines.Goals as goal

pub returns : goal.returns
returns c =
    let over = c.args.self.now.store.now in
    let at = there_is over.state.paths c.args.guard.index c.requires.within in
    let is = c.index.ensures at.0 at.1 in
    let g : plans.Guard = record { steps = at.0; op = op_view c.args.guard.op; literal = literal_view c.args.guard.literal.now } in
    let told : lines_where g.op (literal_value g.literal) (entries_of g.steps (statuses_in over)) ≡ numbers_where (guard_status (guard_at over.state.paths (Some c.args.guard))) 1 (statuses_in over) =
    guarded_are g (statuses_in over) c.requires.operator (λ line. c.a_line_has_one_entry.ensures c.index.result.now at.0 (entries_of at.0 (statuses_in over)) line is)
    ∙ ap (λ (o : Option (List Step)). numbers_where (guard_status (guard_of_steps c.args.guard o)) 1 (statuses_in over)) (sym at.1) in
    IfOk-weaker c.lines_where.result _ _ (λ (lines : Vec ℕ Global) e. e ∙ told) (c.lines_where.ensures at.0 (entries_of at.0 (statuses_in over)) (literal_value g.literal) is c.in_ok-key.ensures)
