-- The names before that of the body stand in front of the others.
use Rattle.std.proofs.Common.{rules}
use Rattle.std.specs.Cmp.Lexicographic.{slice_cmp}
use Rattle.std.specs.Ordering.{is_gt, nat_cmp}
use Rattle.std.proofs.lemmas.List.Sorted.{IsPartitionPoint-from_clause}
use Rattle.jp_strings.specs.Points.{points_of}
use Rattle.jp_columns.specs.Names.{name_at}
use Rattle.jp_columns.proofs.Standing.{partitioned}
use Rattle.jp_columns.proofs.order.first_of.Goals as goal

pub returns-clause-first : goal.returns-clause-first
returns-clause-first c =
    let names = c.args.names.now in
    let columns = c.args.columns.now in
    let text = points_of c.args.body.now in
    IsPartitionPoint-from_clause (λ column. is_gt (slice_cmp nat_cmp text (name_at names column))) columns c.partition_point.result c.partition_point.ensures.partitioned
    (partitioned names columns text c.requires.sorted) (λ a r q k. search rules)
