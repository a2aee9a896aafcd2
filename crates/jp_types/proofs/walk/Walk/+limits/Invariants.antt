use Rattle.std.proofs.Common.{◌≡◌, drop}
use Rattle.jp_model.specs.Query.Limits.{segments_pass, selectors_pass, logicals_pass, arguments_pass}
use Rattle.jp_types.specs.Limits.{limit_tests}
use Rattle.jp_syntax.specs.View.{segments_view, selectors_view, logicals_view, arguments_view}
use Rattle.jp_types.proofs.walk.Walk.+limits.Given as goal

-- all passes where what is left does
abbrev pub invariant-call_passes-loop-argument : goal.invariant-call_passes-loop-argument
invariant-call_passes-loop-argument l = arguments_pass (arguments_view (drop l.argument-index l.argument-items)) (limit_tests l.limit) ≡ arguments_pass (arguments_view l.argument-items) (limit_tests l.limit)

abbrev pub invariant-logical_passes-loop-part : goal.invariant-logical_passes-loop-part
invariant-logical_passes-loop-part l = logicals_pass (logicals_view (drop l.part-index l.part-items)) (limit_tests l.limit) ≡ logicals_pass (logicals_view l.part-items) (limit_tests l.limit)

abbrev pub invariant-segments_pass-loop-segment : goal.invariant-segments_pass-loop-segment
invariant-segments_pass-loop-segment l = segments_pass (segments_view (drop l.segment-index l.segments)) (limit_tests l.limit) ≡ segments_pass (segments_view l.segments) (limit_tests l.limit)

abbrev pub invariant-segment_passes-loop-selector : goal.invariant-segment_passes-loop-selector
invariant-segment_passes-loop-selector l = selectors_pass (selectors_view (drop l.selector-index l.selector-items)) (limit_tests l.limit) ≡ selectors_pass (selectors_view l.selector-items) (limit_tests l.limit)
