use Rattle.jp_decimal.proofs.KeyLaw.{keys_order}
use Rattle.jp_decimal.proofs.laws.keys_are_ordered_as_values.Goals as goal

pub returns : goal.returns
returns c = keys_order
