-- What is told so far, and then the segments that are left, is the text of all.
use Rattle.std.proofs.Common.{◌≡◌, ◌++◌, drop, false, map}
use Rattle.jp_syntax.specs.View.{segment_view}
use Rattle.jp_plan.specs.Walks.{parts_text}
use Rattle.jp_plan.proofs.segments.push_segments.Given as goal

abbrev pub invariant-loop-segment : goal.invariant-loop-segment
invariant-loop-segment l =
    l.out.items ++ parts_text l.walks (map segment_view (drop l.segment-index l.segments)) ≡ l.initial.out.items ++ parts_text false (map segment_view l.segments)
