use Rattle.std.proofs.Common.{◌∙◌}
use Rattle.jp_values.proofs.KeyOrder.{keys_in_order}
use Rattle.jp_values.proofs.key.KeyOrd.cmp.Goals as goal

pub returns-clause-values : goal.returns-clause-values
returns-clause-values c x y p q = c.listed.ensures ∙ keys_in_order c.args.self.now c.args.other.now x y p q
