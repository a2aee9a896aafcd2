-- The indexes that a query is answered by.
use Rattle.std.specs.Prelude.{◌≡◌, ◌<◌, true, List, [], length, Option, Some, None, IfSome}
use Rattle.jp_model.specs.Query.Syntax.{Segments}
use Rattle.jp_model.specs.Query.Typing.{segments_typed}
use Rattle.jp_model.specs.Plans.{leading_steps, seek_of, guard_of}
use Rattle.jp_model.specs.Steps.{Step}
use Rattle.jp_syntax.specs.View.{segments_view}
use Rattle.jp_syntax.specs.Sound.{has_sound_literals}
use Rattle.jp_store.specs.Collections.{Collection}
use Rattle.jp_plan.specs.Behind.{segments_behind}
use Rattle.jp_plan.specs.Paths.{path_at, guard_at}
use Rattle.jp_plan.specs.declared.route.Route.{Route}

-- the steps of a seek, none where there is no seek
abbrev pub steps_or_none : Option (List Step) → List Step
steps_or_none None = []
steps_or_none (Some steps) = steps

-- the seek and the guard are those of the query over the indexes of the collection, and the rest is after the seek
pub record IsRouteOf (route : Route) (q : Segments) (c : Collection) : Type 0 where
  pub sound : has_sound_literals q ≡ true
  pub typed : segments_typed q ≡ true
  pub seek_within : IfSome route.seek (λ k. k < length c.state.paths)
  pub seek_is : path_at c.state.paths route.seek ≡ seek_of c.state.paths (leading_steps q)
  pub rest_is : segments_behind (steps_or_none (path_at c.state.paths route.seek)) q ≡ Some (segments_view route.rest.now)
  pub guard_within : IfSome route.guard (λ g. g.index < length c.state.paths)
  pub guard_is : guard_at c.state.paths route.guard ≡ guard_of c.state.paths q
