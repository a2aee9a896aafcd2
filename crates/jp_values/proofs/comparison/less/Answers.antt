use Rattle.std.proofs.Common.{◌∙◌, ap₂}
use Rattle.jp_model.specs.Json.Tree.{value_of}
use Rattle.jp_model.specs.Meaning.Compare.{is_less}
use Rattle.jp_nodes.specs.Cursors.{node_of}
use Rattle.jp_values.proofs.Leaves.{scalars_less}
use Rattle.jp_values.proofs.comparison.less.Goals as goal

pub returns : goal.returns
returns c =
    c.is_less.ensures
    ∙ (ap₂ is_less c.of_node.ensures c.of_node-2.ensures ∙ scalars_less (value_of (node_of c.args.left).tree) (value_of (node_of c.args.right).tree))
