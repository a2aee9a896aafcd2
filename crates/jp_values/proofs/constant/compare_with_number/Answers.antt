use Rattle.std.proofs.Common.{◌∙◌, ap, sym}
use Rattle.jp_decimal.specs.Decimals.{number_of}
use Rattle.jp_model.specs.Json.Tree.{value_of}
use Rattle.jp_syntax.specs.View.{op_view}
use Rattle.jp_nodes.specs.Cursors.{node_of}
use Rattle.jp_values.specs.Constants.{holds_at}
use Rattle.jp_values.proofs.Constants.{number_at, apart_from_number}
use Rattle.jp_values.proofs.constant.compare_with_number.Goals as goal

pub returns-in-Some : goal.returns-in-Some
returns-in-Some c =
    c.is_asked_for.ensures ∙ (ap (holds_at (op_view c.args.op)) c.compare.ensures
    ∙ number_at c.values_are_in_total_order.ensures (op_view c.args.op) (value_of (node_of c.args.node).tree) (number_of c.in-Some.own) (number_of c.args.number.now) c.in-Some.ensures)

pub returns-in-None : goal.returns-in-None
returns-in-None c =
    c.holds_apart.ensures ∙ apart_from_number (op_view c.args.op) (value_of (node_of c.args.node).tree) (number_of c.args.number.now) (sym c.in-None.ensures)
