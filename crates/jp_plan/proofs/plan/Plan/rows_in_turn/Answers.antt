-- One line more is told, and at the end none is left.
use Rattle.std.proofs.Common.{ℕ, List, [], length, ap, subst, arith, refl}
use Rattle.jp_store.specs.Collections.{statuses_in}
use Rattle.jp_plan.specs.ByLine.{found_rows}
use Rattle.jp_plan.specs.PlanViews.{plan_of}
use Rattle.jp_plan.proofs.Told.{Left, open_now, refuse_now, one_off, moved}
use Rattle.jp_plan.proofs.Turns.{none_left}
use Rattle.jp_plan.proofs.plan.Plan.rows_in_turn.Goals as goal

pub push_nodes-requires-clause-line : goal.push_nodes-requires-clause-line
push_nodes-requires-clause-line c = (open_now (plan_of c.args.self.now) c.in-Some.turn c.in-Open.line c.loop-turn.to_open.now c.loop-turn.to_refuse.now (found_rows c.loop-turn.rows) c.in-Some.ensures c.in-Open.is c.loop-turn.invariant.left).is_line

pub push_nodes-requires-clause-opened : goal.push_nodes-requires-clause-opened
push_nodes-requires-clause-opened c = (open_now (plan_of c.args.self.now) c.in-Some.turn c.in-Open.line c.loop-turn.to_open.now c.loop-turn.to_refuse.now (found_rows c.loop-turn.rows) c.in-Some.ensures c.in-Open.is c.loop-turn.invariant.left).passes

pub push_nodes-requires-clause-room : goal.push_nodes-requires-clause-room
push_nodes-requires-clause-room c =
    let off = one_off c.in-Some.turn c.in-Open.line c.loop-turn.to_open.now c.loop-turn.to_refuse.now c.in-Some.ensures c.in-Open.is in
    omega (arith, off, c.loop-turn.invariant.counted, c.requires.room)

pub loop-turn-preserved-in-Continue-branch-2 : goal.loop-turn-preserved-in-Continue-branch-2
loop-turn-preserved-in-Continue-branch-2 c =
    let p = plan_of c.args.self.now in
    let now = open_now p c.in-Some.turn c.in-Open.line c.loop-turn.to_open.now c.loop-turn.to_refuse.now (found_rows c.loop-turn.rows) c.in-Some.ensures c.in-Open.is c.loop-turn.invariant.left in
    let off = one_off c.in-Some.turn c.in-Open.line c.loop-turn.to_open.now c.loop-turn.to_refuse.now c.in-Some.ensures c.in-Open.is in
    record {
      left = moved p _ _ _ _ _ _ c.behind_first-to_open.ensures refl c.in_ok-push_nodes-in-Open.ensures.rows now.left;
      turn = c.in_ok-push_nodes-in-Open.ensures.turn;
      on_lines = c.in_ok-push_nodes-in-Open.ensures.lines c.loop-turn.invariant.on_lines;
      counted = let k = ap length c.behind_first-to_open.ensures in omega (arith, off, k, c.in_ok-push_nodes-in-Open.ensures.count, c.loop-turn.invariant.counted);
      added = omega (arith, c.in_ok-push_nodes-in-Open.ensures.count, c.loop-turn.invariant.added);
    }

pub push_refusal-requires-clause-line : goal.push_refusal-requires-clause-line
push_refusal-requires-clause-line c = (refuse_now (plan_of c.args.self.now) c.in-Some.turn c.in-Refuse.line c.loop-turn.to_open.now c.loop-turn.to_refuse.now (found_rows c.loop-turn.rows) c.in-Some.ensures c.in-Refuse.is c.loop-turn.invariant.left).is_line

pub push_refusal-requires-clause-refused : goal.push_refusal-requires-clause-refused
push_refusal-requires-clause-refused c = (refuse_now (plan_of c.args.self.now) c.in-Some.turn c.in-Refuse.line c.loop-turn.to_open.now c.loop-turn.to_refuse.now (found_rows c.loop-turn.rows) c.in-Some.ensures c.in-Refuse.is c.loop-turn.invariant.left).passes

pub loop-turn-preserved : goal.loop-turn-preserved
loop-turn-preserved c =
    let p = plan_of c.args.self.now in
    let now = refuse_now p c.in-Some.turn c.in-Refuse.line c.loop-turn.to_open.now c.loop-turn.to_refuse.now (found_rows c.loop-turn.rows) c.in-Some.ensures c.in-Refuse.is c.loop-turn.invariant.left in
    record {
      left = moved p _ _ _ _ _ _ refl c.behind_first-to_refuse.ensures c.in_ok-push_refusal-in-Refuse.ensures.rows now.left;
      turn = c.in_ok-push_refusal-in-Refuse.ensures.turn;
      on_lines = c.in_ok-push_refusal-in-Refuse.ensures.lines c.loop-turn.invariant.on_lines;
      counted = c.loop-turn.invariant.counted;
      added = c.loop-turn.invariant.added;
    }

pub returns-clause-rows : goal.returns-clause-rows
returns-clause-rows c =
    let p = plan_of c.args.self.now in
    let rows = found_rows c.loop-turn.rows in
    let ended = c.in_default.ensures in
    let left = subst (λ (rs : List ℕ). Left p [] rs rows) ended.1 (subst (λ (os : List ℕ). Left p os c.loop-turn.to_refuse.now rows) ended.0 c.loop-turn.invariant.left) in
    none_left p.query p.over.state.paths (statuses_in p.over) rows left
