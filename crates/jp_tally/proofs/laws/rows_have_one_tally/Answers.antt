-- Two lists in one strict order with the same entries are one.
use Rattle.jp_tally.proofs.Unique.{one_tally}
use Rattle.jp_tally.proofs.laws.rows_have_one_tally.Goals as goal

pub returns : goal.returns
returns c = one_tally
