-- What is kept, and what comes of the row that is joined and those that are left, are the rows joined.
use Rattle.std.proofs.Common.{◌≡◌, ◌++◌, drop}
use Rattle.jp_tally.specs.Counting.{entries_of, entries_of_counted, joined, lead}
use Rattle.jp_tally.proofs.counting.join_rows.Given as goal

abbrev pub invariant-loop-next : goal.invariant-loop-next
invariant-loop-next l =
    entries_of l.rows ++ lead (record { row = l.current.row.now; count = l.current.count }) (joined (entries_of_counted (drop l.next-index l.others)))
    ≡ joined (entries_of_counted l.listed)
