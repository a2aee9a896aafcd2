use Rattle.std.proofs.Common.{◌≡◌, drop, map}
use Rattle.jp_model.specs.Query.Singular.{singular_steps}
use Rattle.jp_syntax.specs.SingularPaths.{step_view}
use Rattle.jp_syntax.specs.View.{segments_view}
use Rattle.jp_syntax.proofs.SingularWalk.{with_front}
use Rattle.jp_syntax.proofs.paths.singular.Given as goal

-- the steps so far, and then those of the segments that are left
abbrev pub invariant-loop-segment : goal.invariant-loop-segment
invariant-loop-segment l = with_front (map step_view l.steps.items) (singular_steps (segments_view (drop l.segment-index l.segment-items))) ≡ singular_steps (segments_view l.segment-items)
