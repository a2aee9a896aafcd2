-- Counting the entries of each row is counting the rows of each entry.
use Rattle.jp_tally.proofs.Sums.{sum_is_length}
use Rattle.jp_tally.proofs.laws.counts_sum_to_the_rows.Goals as goal

pub returns : goal.returns
returns c = sum_is_length
