use Rattle.std.proofs.Common.{◌∙◌, ap₂}
use Rattle.jp_model.specs.Meaning.Compare.{is_less}
use Rattle.jp_values.specs.Values.{value_view}
use Rattle.jp_values.proofs.Leaves.{sides_less}
use Rattle.jp_values.proofs.comparison.is_less.Goals as goal

pub returns : goal.returns
returns c = c.is_less.ensures ∙ (ap₂ is_less c.of_value.ensures c.of_value-2.ensures ∙ sides_less (value_view c.args.left) (value_view c.args.right))
