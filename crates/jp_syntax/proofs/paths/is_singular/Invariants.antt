use Rattle.std.proofs.Common.{◌≡◌, is_some, drop}
use Rattle.jp_model.specs.Query.Singular.{singular_steps}
use Rattle.jp_syntax.specs.View.{segments_view}
use Rattle.jp_syntax.proofs.paths.is_singular.Given as goal

-- the segments so far are singular
abbrev pub invariant-loop-segment : goal.invariant-loop-segment
invariant-loop-segment l = is_some (singular_steps (segments_view (drop l.segment-index l.segments))) ≡ is_some (singular_steps (segments_view l.segments))
