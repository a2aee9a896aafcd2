use Rattle.std.proofs.Common.{◌∙◌, ap}
use Rattle.std.specs.Ordering.{is_eq}
use Rattle.jp_values.proofs.KeyOrder.{values_tie}
use Rattle.jp_values.proofs.key.KeyPartialEq.eq.Goals as goal

pub returns-clause-values : goal.returns-clause-values
returns-clause-values c x y p q = c.is_eq.ensures ∙ (ap is_eq (c.cmp.ensures.values x y p q) ∙ values_tie c.args.self.now c.args.other.now x y p q)
