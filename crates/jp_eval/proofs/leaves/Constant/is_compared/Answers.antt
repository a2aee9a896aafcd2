-- The number that was read has the value of the literal.
use Rattle.std.proofs.Common.{◌∙◌, ap, sym, Some}
use Rattle.std.specs.Prelude.{option_map, Option}
use Rattle.jp_decimal.specs.Decimals.{numeral_number}
use Rattle.jp_decimal.specs.Values.{Number}
use Rattle.jp_model.specs.Json.Tree.{Value, value_of}
use Rattle.jp_model.specs.Meaning.Compare.{compared}
use Rattle.jp_model.specs.Meaning.Functions.{literal_value, single_value}
use Rattle.jp_syntax.specs.View.{literal_view, op_view}
use Rattle.jp_nodes.specs.Cursors.{node_of}
use Rattle.jp_nodes.specs.declared.cursor.Cursor.{Cursor}
use Rattle.jp_values.specs.Constants.{compared_with_number}
use Rattle.jp_children.specs.Found.{node_list}
use Rattle.jp_eval.proofs.Literals.{has_value}
use Rattle.jp_eval.specs.declared.leaves.Constant.{Constant}
use Rattle.jp_eval.proofs.leaves.Constant.is_compared.Goals as goal

pub returns-in-Some-number : goal.returns-in-Some-number
returns-in-Some-number c =
    let self : Constant = c.args.self.now in
    let op = op_view c.args.op in
    let v : Value = value_of (node_of c.in-Some.node).tree in
    let right : Value = literal_value (literal_view self.literal) in
    c.compare_with_number.ensures
    ∙ (ap (λ (x : Number). compared_with_number op v x) c.decimal.ensures
    ∙ (ap (λ (w : Value). compared op (Some v) (Some w)) (has_value (option_map numeral_number self.number) (literal_view self.literal) (numeral_number c.in-Some-number.number) (ap (option_map numeral_number) c.in-Some-number.is) self.read)
    ∙ ap (λ (o : Option Cursor). compared op (single_value (node_list o)) (Some right)) (sym c.in-Some.is)))
