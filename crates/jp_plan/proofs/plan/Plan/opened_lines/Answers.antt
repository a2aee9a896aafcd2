-- The lines that the indexes tell are those to be opened.
use Rattle.std.proofs.Common.{◌∙◌, ℕ, Some, Global, Vec, sym, ap}
use Rattle.std.specs.Prelude.{filter}
use Rattle.std.proofs.lemmas.List.Elements.{All-same}
use Rattle.std.proofs.lemmas.Result.{IfOk-weaker}
use Rattle.jp_model.specs.Numbered.{numbers_where}
use Rattle.jp_store.specs.Collections.{statuses_in, line_status}
use Rattle.jp_plan.specs.Passing.{guard_status, seek_status, IsLineOf}
use Rattle.jp_plan.specs.Paths.{guard_at, path_at}
use Rattle.jp_plan.specs.PlanViews.{plan_of}
use Rattle.jp_plan.proofs.Passing.{are_lines, held_are, same_pass, opens_both}
use Rattle.jp_plan.proofs.Sounds.{route_fit}
use Rattle.jp_plan.proofs.plan.Plan.opened_lines.Goals as goal

pub guarded_lines-requires-clause-operator : goal.guarded_lines-requires-clause-operator
guarded_lines-requires-clause-operator c = (route_fit (plan_of c.args.self.now).query (plan_of c.args.self.now).over c.args.route c.in-Some.guard c.requires c.in-Some.is).0

pub guarded_lines-requires-clause-sound : goal.guarded_lines-requires-clause-sound
guarded_lines-requires-clause-sound c = (route_fit (plan_of c.args.self.now).query (plan_of c.args.self.now).over c.args.route c.in-Some.guard c.requires c.in-Some.is).1

pub held_to_seek-requires-clause-lines : goal.held_to_seek-requires-clause-lines
held_to_seek-requires-clause-lines c =
    let over = (plan_of c.args.self.now).over in
    let guard = guard_status (guard_at over.state.paths (Some c.in-Some.guard)) in
    All-same (IsLineOf over) c.deref.result.now (numbers_where guard 1 (statuses_in over)) (c.deref.ensures.value ∙ c.in_ok-guarded-in-Some-seek.ensures) (are_lines over guard)

pub guarded_lines-requires-in-None-seek-clause-operator : goal.guarded_lines-requires-in-None-seek-clause-operator
guarded_lines-requires-in-None-seek-clause-operator c = (route_fit (plan_of c.args.self.now).query (plan_of c.args.self.now).over c.args.route c.in-Some.guard c.requires c.in-Some.is).0

pub guarded_lines-requires-in-None-seek-clause-sound : goal.guarded_lines-requires-in-None-seek-clause-sound
guarded_lines-requires-in-None-seek-clause-sound c = (route_fit (plan_of c.args.self.now).query (plan_of c.args.self.now).over c.args.route c.in-Some.guard c.requires c.in-Some.is).1

pub returns-in_ok-guarded-in-Some-seek : goal.returns-in_ok-guarded-in-Some-seek
returns-in_ok-guarded-in-Some-seek c =
    let p = plan_of c.args.self.now in
    let seek = path_at p.over.state.paths (Some c.in-Some-seek.index) in
    let guard = guard_at p.over.state.paths (Some c.in-Some.guard) in
    IfOk-weaker c.held_to_seek.result _ _
    (λ (lines : Vec ℕ Global) e.
    e
    ∙ (ap (filter (λ line. seek_status seek (line_status line p.over))) (c.deref.ensures.value ∙ c.in_ok-guarded-in-Some-seek.ensures)
    ∙ (held_are p.over (guard_status guard) (seek_status seek)
    ∙ same_pass _ _ (opens_both p.query p.over.state.paths seek guard (sym (ap (path_at p.over.state.paths) c.in-Some-seek.is) ∙ c.requires.seek_is) (sym (ap (guard_at p.over.state.paths) c.in-Some.is) ∙ c.requires.guard_is)) 1 (statuses_in p.over))))
    c.held_to_seek.ensures
