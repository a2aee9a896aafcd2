use Rattle.std.proofs.Common.{◌∙◌, ap}
use Rattle.std.specs.Ordering.{is_eq}
use Rattle.jp_decimal.proofs.KeyLaw.{keys_order}
use Rattle.jp_decimal.proofs.key.DecimalKey.is_same.Goals as goal

pub returns : goal.returns
returns c x y p q = c.eq.ensures ∙ ap is_eq (keys_order c.args.self.now c.args.other.now x y p q)
