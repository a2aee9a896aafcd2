-- The keys so far, and the segments that are left, are all.
use Rattle.std.proofs.Common.{◌≡◌, ◌++◌, drop, map}
use Rattle.jp_syntax.specs.View.{segment_view}
use Rattle.jp_eval.specs.Keys.{key_segment}
use Rattle.jp_eval.proofs.constants.compile_keys.Given as goal

abbrev pub invariant-loop-segment : goal.invariant-loop-segment
invariant-loop-segment l = map key_segment l.keys.items ++ map segment_view (drop l.segment-index l.segments) ≡ map segment_view l.segments
