-- What is left decides.
use Rattle.std.proofs.Common.{◌≡◌, drop, map}
use Rattle.jp_syntax.specs.View.{arguments_view}
use Rattle.jp_types.specs.Signatures.{all_fit, kind_view}
use Rattle.jp_types.proofs.typing.all_fit.Given as goal

abbrev pub invariant-loop-index : goal.invariant-loop-index
invariant-loop-index l = all_fit (arguments_view (drop l.index l.arguments)) (map kind_view (drop l.index l.parameters)) ≡ all_fit (arguments_view l.arguments) (map kind_view l.parameters)
