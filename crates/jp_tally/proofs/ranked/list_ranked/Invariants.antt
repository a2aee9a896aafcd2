-- What is listed and what is left are all rows.
use Rattle.std.proofs.Common.{◌≡◌, ◌++◌, drop}
use Rattle.jp_tally.specs.Counting.{entries_in, entries_of, entries_of_ranked}
use Rattle.jp_tally.proofs.ranked.list_ranked.Given as goal

abbrev pub invariant-loop-run : goal.invariant-loop-run
invariant-loop-run l = entries_of_ranked l.ranked.items ++ entries_in l.rest (drop l.run-index l.rows.runs.items) ≡ entries_of_ranked l.fn.ranked.items ++ entries_of l.rows
