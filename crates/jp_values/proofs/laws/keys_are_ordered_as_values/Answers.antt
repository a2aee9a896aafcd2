use Rattle.jp_values.proofs.KeyOrder.{keys_in_order}
use Rattle.jp_values.proofs.laws.keys_are_ordered_as_values.Goals as goal

pub returns : goal.returns
returns c = keys_in_order
