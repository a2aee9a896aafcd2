-- The rows are listed and sorted.
use Rattle.std.proofs.Common.{◌∙◌, ap, ◌++◌}
use Rattle.jp_tally.specs.Counting.{entries_of, entries_of_ranked}
use Rattle.jp_tally.proofs.Ranks.{ranked_in_order, ranked_moved}
use Rattle.jp_tally.proofs.ranked.rank_rows.Goals as goal

pub returns-clause-rows : goal.returns-clause-rows
returns-clause-rows c =
    ranked_moved (entries_of c.args.rows.now) c.list_ranked.new.ranked.items c.sort_unstable.new.self.items
    (c.in_ok-list_ranked.ensures ∙ ap (λ l. entries_of_ranked l ++ entries_of c.args.rows.now) c.new-ranked.ensures.items) c.sort_unstable.ensures.permutation

pub returns-clause-order : goal.returns-clause-order
returns-clause-order c = ranked_in_order c.sort_unstable.new.self.items c.sort_unstable.ensures.sorted
