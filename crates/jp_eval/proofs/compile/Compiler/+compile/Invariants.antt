-- What was compiled, with what is still to come, is all.
use Rattle.std.proofs.Common.{◌≡◌, ◌≤◌, ◌+◌, ◌++◌, drop, map, true}
use Rattle.jp_eval.specs.Expressions.{readable}
use Rattle.jp_eval.specs.Programs.{Table, Means, steps_in, step_view, choice_view, condition_view}
use Rattle.jp_eval.specs.Roots.{asks_from, logical_from, logicals_ask_root}
use Rattle.jp_model.specs.Query.Limits.{segments_pass, selectors_pass, logicals_pass}
use Rattle.jp_model.specs.Query.Typing.{segments_typed, selectors_typed, logicals_typed}
use Rattle.jp_syntax.specs.View.{origin_view, segments_view, segment_view, selectors_view, selector_view, logicals_view, logical_view, comparable_view, path_view, call_view, argument_view}
use Rattle.jp_eval.proofs.Linking.{onward_from}
use Rattle.jp_eval.proofs.Sizes.{size_of_segments, size_of_segment, size_of_selectors, size_of_selector, size_of_logical, size_of_logicals, size_of_comparable, size_of_path, size_of_call, size_of_argument}
use Rattle.jp_eval.proofs.compile.Compiler.+compile.Given as goal

abbrev pub decreases-compile_segments : goal.decreases-compile_segments
decreases-compile_segments l = size_of_segments (segments_view l.segments.now) + 1

abbrev pub decreases-push_segment : goal.decreases-push_segment
decreases-push_segment l = size_of_segment (segment_view l.segment.now)

abbrev pub decreases-compile_selectors : goal.decreases-compile_selectors
decreases-compile_selectors l = size_of_selectors (selectors_view l.selectors.now) + 1

abbrev pub decreases-push_selector : goal.decreases-push_selector
decreases-push_selector l = size_of_selector (selector_view l.selector.now)

abbrev pub decreases-compile_logicals : goal.decreases-compile_logicals
decreases-compile_logicals l = size_of_logicals (logicals_view l.parts.now)

abbrev pub decreases-compile_logical : goal.decreases-compile_logical
decreases-compile_logical l = size_of_logical (logical_view l.expression.now) + 2

abbrev pub decreases-compile_once : goal.decreases-compile_once
decreases-compile_once l = size_of_logical (logical_view l.expression.now) + 1

abbrev pub decreases-compile_test : goal.decreases-compile_test
decreases-compile_test l = size_of_logical (logical_view l.expression.now)

abbrev pub decreases-compile_comparison : goal.decreases-compile_comparison
decreases-compile_comparison l = size_of_comparable (comparable_view l.left.now) + size_of_comparable (comparable_view l.right.now) + 5

abbrev pub decreases-compile_exists : goal.decreases-compile_exists
decreases-compile_exists l = size_of_path (path_view l.path.now) + 1

abbrev pub decreases-compile_passes : goal.decreases-compile_passes
decreases-compile_passes l = size_of_call (call_view l.call.now) + 1

abbrev pub decreases-compile_side : goal.decreases-compile_side
decreases-compile_side l = size_of_comparable (comparable_view l.side.now)

abbrev pub decreases-compile_argument : goal.decreases-compile_argument
decreases-compile_argument l = size_of_argument (argument_view l.argument.now)

abbrev pub decreases-compile_spelled : goal.decreases-compile_spelled
decreases-compile_spelled l = size_of_argument (argument_view l.argument.now)

abbrev pub decreases-compile_path : goal.decreases-compile_path
decreases-compile_path l = size_of_path (path_view l.path.now) + 2

abbrev pub decreases-compile_only : goal.decreases-compile_only
decreases-compile_only l = size_of_path (path_view l.path.now) + 1

abbrev pub decreases-compile_call : goal.decreases-compile_call
decreases-compile_call l = size_of_call (call_view l.call.now) + 2

abbrev pub decreases-compile_value : goal.decreases-compile_value
decreases-compile_value l = size_of_call (call_view l.call.now) + 1

abbrev pub invariant-compile_segments-loop-segment : goal.invariant-compile_segments-loop-segment
invariant-compile_segments-loop-segment l = record {
  means : Means l.fn.self.slots.items l.self.slots.items (λ (table : Table). map (step_view table) (steps_in l.parts) ++ map onward_from (drop l.segment-index l.segments)) (map onward_from l.segments);
  literals : segments_pass (segments_view (drop l.segment-index l.segments)) readable ≡ true;
  typed : segments_typed (segments_view (drop l.segment-index l.segments)) ≡ true;
  size : size_of_segments (segments_view (drop l.segment-index l.segments)) ≤ size_of_segments (segments_view l.segments);
}

abbrev pub invariant-compile_selectors-loop-selector : goal.invariant-compile_selectors-loop-selector
invariant-compile_selectors-loop-selector l = record {
  means : Means l.fn.self.slots.items l.self.slots.items (λ (table : Table). map (choice_view table) l.compiled.items ++ map selector_view (drop l.selector-index l.selectors)) (map selector_view l.selectors);
  literals : selectors_pass (selectors_view (drop l.selector-index l.selectors)) readable ≡ true;
  typed : selectors_typed (selectors_view (drop l.selector-index l.selectors)) ≡ true;
  size : size_of_selectors (selectors_view (drop l.selector-index l.selectors)) ≤ size_of_selectors (selectors_view l.selectors);
}

abbrev pub invariant-compile_logicals-loop-part : goal.invariant-compile_logicals-loop-part
invariant-compile_logicals-loop-part l = record {
  means : Means l.fn.self.slots.items l.self.slots.items (λ (table : Table). map (λ c. logical_from (origin_view l.from) (condition_view table c)) l.compiled.items ++ map logical_view (drop l.part-index l.parts)) (map logical_view l.parts);
  literals : logicals_pass (logicals_view (drop l.part-index l.parts)) readable ≡ true;
  typed : logicals_typed (logicals_view (drop l.part-index l.parts)) ≡ true;
  root : asks_from (origin_view l.from) (logicals_ask_root (logicals_view (drop l.part-index l.parts))) ≡ true;
  size : size_of_logicals (logicals_view (drop l.part-index l.parts)) ≤ size_of_logicals (logicals_view l.parts);
}
