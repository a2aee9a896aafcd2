-- What is left decides.
use Rattle.std.proofs.Common.{◌≡◌, drop, map}
use Rattle.jp_model.specs.Query.Typing.{segments_typed, selectors_typed, logicals_typed, arguments_typed}
use Rattle.jp_syntax.specs.View.{segments_view, selectors_view, logicals_view, arguments_view}
use Rattle.jp_types.specs.Signatures.{kind_view}
use Rattle.jp_types.proofs.walk.Walk.+typing.Given as goal

abbrev pub invariant-segments_typed-loop-segment : goal.invariant-segments_typed-loop-segment
invariant-segments_typed-loop-segment l = segments_typed (segments_view (drop l.segment-index l.segments)) ≡ segments_typed (segments_view l.segments)

abbrev pub invariant-selectors_typed-loop-selector : goal.invariant-selectors_typed-loop-selector
invariant-selectors_typed-loop-selector l = selectors_typed (selectors_view (drop l.selector-index l.selectors)) ≡ selectors_typed (selectors_view l.selectors)

abbrev pub invariant-logicals_typed-loop-part : goal.invariant-logicals_typed-loop-part
invariant-logicals_typed-loop-part l = logicals_typed (logicals_view (drop l.part-index l.parts)) ≡ logicals_typed (logicals_view l.parts)

abbrev pub invariant-arguments_typed-loop-index : goal.invariant-arguments_typed-loop-index
invariant-arguments_typed-loop-index l = arguments_typed (arguments_view (drop l.index l.arguments)) (map kind_view (drop l.index l.parameters)) ≡ arguments_typed (arguments_view l.arguments) (map kind_view l.parameters)
