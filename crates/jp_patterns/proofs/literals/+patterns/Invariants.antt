-- The patterns of what is left are added to those that were found.
use Rattle.std.proofs.Common.{◌≡◌, ◌++◌, drop}
use Rattle.jp_syntax.specs.View.{segments_view, selectors_view, logicals_view, arguments_view}
use Rattle.jp_patterns.specs.Patterns.{arguments_patterns, logicals_patterns, segments_patterns, selectors_patterns, texts_of}
use Rattle.jp_patterns.proofs.literals.+patterns.Given as goal

abbrev pub invariant-add_segments-loop-segment : goal.invariant-add_segments-loop-segment
invariant-add_segments-loop-segment l =
    texts_of l.found.items ++ segments_patterns (segments_view (drop l.segment-index l.segments)) ≡ texts_of l.fn.found.items ++ segments_patterns (segments_view l.segments)

abbrev pub invariant-add_selectors-loop-selector : goal.invariant-add_selectors-loop-selector
invariant-add_selectors-loop-selector l =
    texts_of l.found.items ++ selectors_patterns (selectors_view (drop l.selector-index l.selectors)) ≡ texts_of l.fn.found.items ++ selectors_patterns (selectors_view l.selectors)

abbrev pub invariant-add_logicals-loop-part : goal.invariant-add_logicals-loop-part
invariant-add_logicals-loop-part l =
    texts_of l.found.items ++ logicals_patterns (logicals_view (drop l.part-index l.parts)) ≡ texts_of l.fn.found.items ++ logicals_patterns (logicals_view l.parts)

abbrev pub invariant-add_arguments-loop-argument : goal.invariant-add_arguments-loop-argument
invariant-add_arguments-loop-argument l =
    texts_of l.found.items ++ arguments_patterns (arguments_view (drop l.argument-index l.arguments)) ≡ texts_of l.fn.found.items ++ arguments_patterns (arguments_view l.arguments)
