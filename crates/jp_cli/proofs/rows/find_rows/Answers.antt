-- The plan opens no more lines than the store has, which are fewer than 2^32.
use Rattle.std.proofs.Common.{◌≡◌, ◌+◌, ◌≤◌, ℕ, length, ap, arith}
use Rattle.std.specs.Prelude.{Result, Ok, Err, OnOk, OnErr}
use Rattle.jp_plan.specs.Planned.{Planned, lines_opened}
use Rattle.jp_plan.specs.PlanViews.{plan_of}
use Rattle.jp_cli.proofs.rows.find_rows.Goals as goal

at_most : {A E : Type 0} (result : Result A E) (old new lines : ℕ) → OnOk result (new ≡ old + lines) → OnErr result ((old ≤ new) × (new ≤ old + lines)) → new ≤ old + lines
at_most (Ok x) old new lines e m = omega (arith, e)
at_most (Err x) old new lines e m = m.1

pub rows-requires : goal.rows-requires
rows-requires c =
    let few = c.no_more_lines_are_opened.ensures (plan_of c.in_ok-plan.plan) in
    let over = ap (λ (p : Planned). length p.over.state.lines) c.in_ok-plan.ensures in
    omega (arith, few, over, c.line_count.ensures, c.requires)

pub returns-clause-few : goal.returns-clause-few
returns-clause-few c =
    let few = c.no_more_lines_are_opened.ensures (plan_of c.in_ok-plan.plan) in
    let over = ap (λ (p : Planned). length p.over.state.lines) c.in_ok-plan.ensures in
    let most = at_most c.rows.result c.args.opened.now c.rows.new.opened (length (lines_opened (plan_of c.in_ok-plan.plan))) c.rows.ensures.count c.rows.ensures.most in
    omega (arith, few, over, most, c.line_count.ensures)
