use Rattle.std.proofs.Common.{◌∙◌}
use Rattle.jp_decimal.proofs.KeyLaw.{keys_order}
use Rattle.jp_decimal.proofs.keys.DecimalKeyOrd.cmp.Goals as goal

pub returns-clause-values : goal.returns-clause-values
returns-clause-values c x y p q = c.listed.ensures ∙ keys_order c.args.self.now c.args.other.now x y p q
