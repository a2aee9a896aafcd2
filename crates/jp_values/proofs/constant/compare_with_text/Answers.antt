use Rattle.std.proofs.Common.{◌∙◌, ap, sym, chars}
use Rattle.jp_model.specs.Json.Tree.{value_of}
use Rattle.jp_syntax.specs.View.{op_view}
use Rattle.jp_strings.specs.Points.{points_of}
use Rattle.jp_nodes.specs.Cursors.{node_of}
use Rattle.jp_values.specs.Constants.{holds_at}
use Rattle.jp_values.proofs.Constants.{text_at, apart_from_text}
use Rattle.jp_values.proofs.constant.compare_with_text.Goals as goal

pub returns-in_default : goal.returns-in_default
returns-in_default c =
    c.holds_apart.ensures ∙ apart_from_text (op_view c.args.op) (value_of (node_of c.args.node).tree) (chars c.args.text.now) (sym c.in_default.ensures.points)

pub returns-in_default-op : goal.returns-in_default-op
returns-in_default-op c =
    c.is_asked_for.ensures ∙ (ap (holds_at (op_view c.args.op)) c.compare_text.ensures
    ∙ text_at (op_view c.args.op) (value_of (node_of c.args.node).tree) (points_of c.in-Some.body.now) (chars c.args.text.now) c.in-Some.ensures.points)
