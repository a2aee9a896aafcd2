use Rattle.std.proofs.Common.{◌∙◌, ap, sym, Some}
use Rattle.jp_decimal.specs.Decimals.{number_of}
use Rattle.jp_model.specs.Json.Tree.{Value, value_of}
use Rattle.jp_nodes.specs.Cursors.{node_of}
use Rattle.jp_nodes.proofs.Contents.{number_is}
use Rattle.jp_values.specs.Values.{value_view}
use Rattle.jp_values.proofs.value.Value.read.Goals as goal

pub returns-in-Some-clause-value : goal.returns-in-Some-clause-value
returns-in-Some-clause-value c =
    ap (λ (v : Value). Some v) (sym (number_is (value_of (node_of c.in-Node.node).tree) (number_of c.in-Some.number) (sym c.in-Some.ensures))) ∙ sym (ap value_view c.in-Node.is)
