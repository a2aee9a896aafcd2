-- What stands before a line that stands in front of another stands in front of it.
use Rattle.std.proofs.Common.{◌≡◌, rules}
use Rattle.std.specs.Ordering.{is_lt}
use Rattle.std.specs.declared.cmp.Ordering.TheVariants.{Less}
use Rattle.std.proofs.lemmas.List.Sorted.{IsPartitionPoint-from_clause}
use Rattle.jp_index.specs.ByKey.{line_order}
use Rattle.jp_index.specs.Cells.{key_at}
use Rattle.jp_index.proofs.Ascending.{partitioned}
use Rattle.jp_index.proofs.ByKey.{before_falls}
use Rattle.jp_index.proofs.order.position_of.Goals as goal

pub returns-clause-position : goal.returns-clause-position
returns-clause-position c = λ h.
    let keys = key_at c.args.cells.now in
    IsPartitionPoint-from_clause (λ a. is_lt (line_order keys a c.args.line)) c.args.lines.now c.partition_point.result c.partition_point.ensures.partitioned
    (partitioned (λ a b. line_order keys a b ≡ Less) (λ a. is_lt (line_order keys a c.args.line)) (before_falls keys c.args.line) c.args.lines.now h) (λ a r q k. search rules)
