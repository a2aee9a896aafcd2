-- After the last segment an open line of steps is ended.
use Rattle.std.proofs.Common.{◌≡◌, ◌∙◌, ◌++◌, [], ap, append-nil, sym, false, drop, map}
use Rattle.std.proofs.lemmas.List.{at_drop_all}
use Rattle.jp_model.specs.Plans.{segments_text}
use Rattle.jp_model.specs.Query.Syntax.{segment_list}
use Rattle.jp_syntax.specs.View.{segment_view, segments_view}
use Rattle.jp_plan.specs.Walks.{parts_text, walk_ends}
use Rattle.jp_plan.proofs.Walks.{segments_listed, tells}
use Rattle.jp_plan.proofs.segments.push_segments.Goals as goal

pub returns-in_ok-extend_from_slice : goal.returns-in_ok-extend_from_slice
returns-in_ok-extend_from_slice c =
    let all = c.loop-segment.invariant in
    let text : segments_text [] (segment_list (segments_view c.args.segments.now)) ≡ parts_text false (map segment_view c.args.segments.now) =
    ap (segments_text []) (segments_listed (map segment_view c.args.segments.now)) ∙ tells (map segment_view c.args.segments.now) in
    let none : parts_text c.loop-segment.walks (map segment_view (drop c.loop-segment.segment-index c.args.segments.now)) ≡ walk_ends c.loop-segment.walks =
    at_drop_all (λ xs. parts_text c.loop-segment.walks (map segment_view xs)) c.args.segments.now c.loop-segment.segment-index c.loop-segment-test.false in
    rw text (c.in_ok-extend_from_slice.ensures.items ∙ (ap (λ b. c.loop-segment.out.items ++ walk_ends b) (sym c.if-walks.true) ∙ (ap (λ b. c.loop-segment.out.items ++ b) (sym none) ∙ all)))

pub returns-else-walks : goal.returns-else-walks
returns-else-walks c =
    let all = c.loop-segment.invariant in
    let text : segments_text [] (segment_list (segments_view c.args.segments.now)) ≡ parts_text false (map segment_view c.args.segments.now) =
    ap (segments_text []) (segments_listed (map segment_view c.args.segments.now)) ∙ tells (map segment_view c.args.segments.now) in
    let none : parts_text c.loop-segment.walks (map segment_view (drop c.loop-segment.segment-index c.args.segments.now)) ≡ walk_ends c.loop-segment.walks =
    at_drop_all (λ xs. parts_text c.loop-segment.walks (map segment_view xs)) c.args.segments.now c.loop-segment.segment-index c.loop-segment-test.false in
    rw text (sym (append-nil c.loop-segment.out.items) ∙ (ap (λ b. c.loop-segment.out.items ++ walk_ends b) (sym c.if-walks.false) ∙ (ap (λ b. c.loop-segment.out.items ++ b) (sym none) ∙ all)))
