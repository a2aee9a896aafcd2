use Rattle.std.proofs.Common.{◌∙◌, sym, map}
use Rattle.std.proofs.lemmas.List.{length-map}
use Rattle.jp_types.specs.Signatures.{kind_view}
use Rattle.jp_types.proofs.Arity.{too_few_fit}
use Rattle.jp_types.proofs.typing.all_fit.Goals as goal

pub returns-then-arguments-parameters : goal.returns-then-arguments-parameters
returns-then-arguments-parameters c =
    let args = c.args.arguments.now in
    let kinds = c.args.parameters.now in
    sym (too_few_fit args (map kind_view kinds) (λ e. c.if-arguments-parameters.true (e ∙ length-map kinds kind_view)))
