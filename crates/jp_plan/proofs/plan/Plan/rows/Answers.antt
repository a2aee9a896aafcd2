-- What is after the seek is well-typed, and its literals can be read.
use Rattle.jp_syntax.specs.View.{segments_view}
use Rattle.jp_plan.specs.Paths.{path_at}
use Rattle.jp_plan.specs.Routes.{steps_or_none}
use Rattle.jp_plan.specs.PlanViews.{plan_of}
use Rattle.jp_plan.proofs.Evaluated.{behind_sound, behind_typed}
use Rattle.jp_plan.proofs.plan.Plan.rows.Goals as goal

pub compile-requires : goal.compile-requires
compile-requires c =
    let p = plan_of c.args.self.now in
    let route = c.find_route-route.result in
    let steps = steps_or_none (path_at p.over.state.paths route.seek) in
    record {
      literals = behind_sound steps (segments_view c.segments.result.now) (segments_view route.rest.now) c.find_route-route.ensures.rest_is c.find_route-route.ensures.sound;
      typed = behind_typed steps (segments_view c.segments.result.now) (segments_view route.rest.now) c.find_route-route.ensures.rest_is c.find_route-route.ensures.typed;
    }
