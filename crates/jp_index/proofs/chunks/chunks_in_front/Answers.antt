-- The chunks begin in order.
use Rattle.std.proofs.Common.{◌≡◌, true, false, arith, rules}
use Rattle.std.specs.List.Sorted.{IsPartitionPoint}
use Rattle.std.specs.declared.cmp.Ordering.TheVariants.{Less}
use Rattle.std.proofs.lemmas.List.Sorted.{IsPartitionPoint-from_clause}
use Rattle.jp_index.specs.ByKey.{line_order, Ascend}
use Rattle.jp_index.specs.Cells.{key_at}
use Rattle.jp_index.specs.Chunks.{begins_by, lines_in}
use Rattle.jp_index.specs.Edges.{in_front}
use Rattle.jp_index.proofs.Edges.{front_falls}
use Rattle.jp_index.proofs.Flat.{Chunk, chunks_parted, fails_behind, holds_in_front, with_lines}
use Rattle.jp_index.proofs.chunks.chunks_in_front.Goals as goal

begin : (c : goal.After-partition_point) → Ascend (key_at c.args.cells.now) (lines_in c.args.chunks.now)
    → IsPartitionPoint (λ (b : Chunk). begins_by (λ a. in_front c.args.edge (key_at c.args.cells.now a) c.args.key.now) b.items ≡ true) (λ (b : Chunk). begins_by (λ a. in_front c.args.edge (key_at c.args.cells.now a) c.args.key.now) b.items ≡ false) c.args.chunks.now c.partition_point.result
begin c h =
    let keys = key_at c.args.cells.now in
    IsPartitionPoint-from_clause (λ (b : Chunk). begins_by (λ a. in_front c.args.edge (keys a) c.args.key.now) b.items) c.args.chunks.now c.partition_point.result c.partition_point.ensures.partitioned
    (chunks_parted (λ a b. line_order keys a b ≡ Less) (λ a. in_front c.args.edge (keys a) c.args.key.now) (front_falls keys c.args.edge c.args.key.now) c.args.chunks.now h (with_lines c.args.chunks.now c.requires)) (λ a r q k. search rules)

pub returns-clause-before : goal.returns-clause-before
returns-clause-before c = λ h.
    let keys = key_at c.args.cells.now in
    holds_in_front (λ a b. line_order keys a b ≡ Less) (λ a. in_front c.args.edge (keys a) c.args.key.now) (front_falls keys c.args.edge c.args.key.now) c.args.chunks.now h (with_lines c.args.chunks.now c.requires)
    c.partition_point.result (begin c h) c.partition_point.ensures.bound (λ a. in_front c.args.edge (keys a) c.args.key.now ≡ true) (front_falls keys c.args.edge c.args.key.now)

pub returns-clause-behind : goal.returns-clause-behind
returns-clause-behind c = λ h.
    let keys = key_at c.args.cells.now in
    fails_behind (λ a b. line_order keys a b ≡ Less) (λ a. in_front c.args.edge (keys a) c.args.key.now) (front_falls keys c.args.edge c.args.key.now) c.args.chunks.now h c.partition_point.result (begin c h)
    c.partition_point.result (omega arith)
