-- The number that was read has the value of the literal.
use Rattle.std.proofs.Common.{◌∙◌, ap, Some}
use Rattle.std.specs.Prelude.{option_map}
use Rattle.jp_decimal.specs.Decimals.{numeral_number}
use Rattle.jp_decimal.specs.Values.{Number}
use Rattle.jp_model.specs.Json.Tree.{Value, number}
use Rattle.jp_syntax.specs.View.{literal_view}
use Rattle.jp_eval.proofs.Literals.{has_value}
use Rattle.jp_eval.specs.declared.leaves.Constant.{Constant}
use Rattle.jp_eval.proofs.leaves.Constant.value.Goals as goal

pub returns-in-Some-clause-value : goal.returns-in-Some-clause-value
returns-in-Some-clause-value c =
    let self : Constant = c.args.self.now in
    ap (λ (x : Number). Some (number x.mantissa x.scale)) c.decimal.ensures
    ∙ ap (λ (v : Value). Some v) (has_value (option_map numeral_number self.number) (literal_view self.literal) (numeral_number c.in-Some.number) (ap (option_map numeral_number) c.in-Some.is) self.read)
