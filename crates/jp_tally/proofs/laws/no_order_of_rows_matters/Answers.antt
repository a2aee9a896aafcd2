-- A row comes as often in each order.
use Rattle.jp_tally.proofs.Sums.{tally_moved}
use Rattle.jp_tally.proofs.laws.no_order_of_rows_matters.Goals as goal

pub returns : goal.returns
returns c = tally_moved
