-- What stands before a line that stands in front of an edge stands in front of it.
use Rattle.std.proofs.Common.{◌≡◌, rules}
use Rattle.std.specs.declared.cmp.Ordering.TheVariants.{Less}
use Rattle.std.proofs.lemmas.List.Sorted.{IsPartitionPoint-from_clause}
use Rattle.jp_index.specs.ByKey.{line_order}
use Rattle.jp_index.specs.Cells.{key_at}
use Rattle.jp_index.specs.Edges.{in_front}
use Rattle.jp_index.proofs.Ascending.{partitioned}
use Rattle.jp_index.proofs.Edges.{front_falls}
use Rattle.jp_index.proofs.order.edge_of.Goals as goal

pub returns-clause-position : goal.returns-clause-position
returns-clause-position c = λ h.
    let keys = key_at c.args.cells.now in
    IsPartitionPoint-from_clause (λ a. in_front c.args.edge (keys a) c.args.key.now) c.args.lines.now c.partition_point.result c.partition_point.ensures.partitioned
    (partitioned (λ a b. line_order keys a b ≡ Less) (λ a. in_front c.args.edge (keys a) c.args.key.now) (front_falls keys c.args.edge c.args.key.now) c.args.lines.now h) (λ a r q k. search rules)
