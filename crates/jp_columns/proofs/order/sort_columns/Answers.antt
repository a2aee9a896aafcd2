-- The closure compares by names.
use Rattle.std.proofs.Common.{rules}
use Rattle.std.specs.Ordering.{is_lt}
use Rattle.std.proofs.lemmas.Cmp.{nat_list_cmp_total}
use Rattle.std.proofs.lemmas.Fn.{always_returns_same}
use Rattle.std.proofs.lemmas.List.MinMax.{ranks_by}
use Rattle.jp_columns.specs.Names.{column_order, name_at}
use Rattle.jp_columns.proofs.order.sort_columns.Goals as goal

pub returns-clause-sorted : goal.returns-clause-sorted
returns-clause-sorted c =
    let names = c.args.names.now in
    c.sort_unstable_by.ensures.sorted (λ column other. is_lt (column_order names column other)) (ranks_by nat_list_cmp_total (name_at names)) (always_returns_same _ _ _ (λ a r q k. search rules))
