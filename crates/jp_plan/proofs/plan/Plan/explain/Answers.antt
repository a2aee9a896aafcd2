-- The lines follow one another.
use Rattle.std.proofs.Common.{◌≡◌, ◌∙◌, ◌++◌, [], ℕ, List, Option, ap, codes, decimal, subst}
use Rattle.jp_model.specs.Plans.{Guard, guard_text, scan_text, seek_text, segments_text, told}
use Rattle.jp_model.specs.Query.Syntax.{segment_list}
use Rattle.jp_model.specs.Steps.{Step}
use Rattle.jp_store.specs.Collections.{statuses_in}
use Rattle.jp_syntax.specs.View.{segments_view}
use Rattle.jp_plan.specs.Paths.{guard_at, path_at}
use Rattle.jp_plan.specs.PlanViews.{plan_of}
use Rattle.jp_plan.specs.Routes.{IsRouteOf}
use Rattle.jp_plan.proofs.Explained.{all_explained, route_sound}
use Rattle.jp_plan.proofs.plan.Plan.explain.Goals as goal

pub push_guard-requires-clause-sound : goal.push_guard-requires-clause-sound
push_guard-requires-clause-sound c =
    route_sound (segments_view c.segments.result.now) (plan_of c.args.self.now).over c.find_route-route.result c.find_route-route.ensures

pub returns : goal.returns
returns c =
    let p = plan_of c.args.self.now in
    let r = c.find_route-route.result in
    let is = subst (λ q. IsRouteOf r q p.over) c.segments.ensures.value c.find_route-route.ensures in
    let seek : Option (List Step) = path_at p.over.state.paths r.seek in
    let guard : Option Guard = guard_at p.over.state.paths r.guard in
    let n = c.in_ok-opened.opened in
    let t = c.tree_count.result in
    let first : c.push_seek.new.out.items ≡ seek_text seek = c.in_ok-push_seek.ensures ∙ ap (λ b. b ++ seek_text seek) c.new-out.ensures.items in
    let second : c.push_guard.new.out.items ≡ seek_text seek ++ guard_text guard = c.in_ok-push_guard.ensures ∙ ap (λ b. b ++ guard_text guard) first in
    let third : c.push_scan.new.out.items ≡ (seek_text seek ++ guard_text guard) ++ scan_text seek guard = c.in_ok-push_scan.ensures ∙ ap (λ b. b ++ scan_text seek guard) second in
    let rest : List ℕ = segments_text [] (segment_list (segments_view r.rest.now)) in
    let fourth : c.push_segments.new.out.items ≡ ((seek_text seek ++ guard_text guard) ++ scan_text seek guard) ++ rest = c.in_ok-push_segments.ensures ∙ ap (λ b. b ++ rest) third in
    c.in_ok-push_counts.ensures
    ∙ (ap (λ b. b ++ told (codes "open " ++ decimal n ++ codes " of " ++ decimal t)) fourth
    ∙ all_explained p.query p.over.state.paths (statuses_in p.over) seek guard (segments_view r.rest.now) n t is.seek_is is.guard_is is.rest_is c.in_ok-opened.ensures c.tree_count.ensures)
