-- The rows are listed, sorted and joined.
use Rattle.std.proofs.Common.{◌∙◌, List, ap, ◌++◌, arith}
use Rattle.jp_tally.specs.Counting.{HasCounted, entries_of, entries_of_counted, joined}
use Rattle.jp_tally.specs.Tallies.{Entry}
use Rattle.jp_tally.specs.declared.counted.Counted.{Counted}
use Rattle.jp_tally.proofs.Together.{counted_together, given_by, order_from_sort}
use Rattle.jp_tally.proofs.counting.count_rows.Goals as goal

pub returns : goal.returns
returns c =
    let before = entries_of c.args.kept.now in let fresh = entries_of c.args.fresh.now in let sorted = c.sort_unstable.new.self.items in
    given_by c.join_rows.result (joined (entries_of_counted sorted)) (HasCounted before fresh) (rw c.deref.ensures.value at c.join_rows.ensures) (λ kept same.
    counted_together before fresh c.list_rows-2.new.listed.items sorted kept c.requires.kept c.requires.fresh
    (c.in_ok-list_rows-2.ensures ∙ ap (λ (l : List Entry). l ++ fresh) (c.in_ok-list_rows.ensures ∙ ap (λ (l : List Counted). entries_of_counted l ++ before) c.new-listed.ensures.items))
    c.sort_unstable.ensures.permutation (order_from_sort sorted (λ k d l. c.sort_unstable.ensures.sorted k d (omega arith) l)) same)
