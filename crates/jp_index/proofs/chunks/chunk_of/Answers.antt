-- The chunks begin in order.
use Rattle.std.proofs.Common.{◌≡◌, true, false, subst, sym, rules, All}
use Rattle.std.specs.Ordering.{is_le}
use Rattle.std.specs.List.Sorted.{IsPartitionPoint}
use Rattle.std.specs.declared.cmp.Ordering.TheVariants.{Less}
use Rattle.std.proofs.lemmas.List.Sorted.{IsPartitionPoint-from_clause}
use Rattle.jp_index.specs.ByKey.{line_order, Ascend}
use Rattle.jp_index.specs.Cells.{key_at}
use Rattle.jp_index.specs.Chunks.{begins_by, lines_before, lines_behind, lines_in}
use Rattle.jp_index.proofs.Flat.{Chunk, all_before, all_behind, chunks_parted, le_falls, with_lines}
use Rattle.jp_index.proofs.chunks.chunk_of.Goals as goal

begin : (c : goal.After-saturating_sub) → Ascend (key_at c.args.cells.now) (lines_in c.args.chunks.now)
    → IsPartitionPoint (λ (b : Chunk). begins_by (λ a. is_le (line_order (key_at c.args.cells.now) a c.args.line)) b.items ≡ true) (λ (b : Chunk). begins_by (λ a. is_le (line_order (key_at c.args.cells.now) a c.args.line)) b.items ≡ false) c.args.chunks.now c.partition_point.result
begin c h =
    let keys = key_at c.args.cells.now in
    IsPartitionPoint-from_clause (λ (b : Chunk). begins_by (λ a. is_le (line_order keys a c.args.line)) b.items) c.args.chunks.now c.partition_point.result c.partition_point.ensures.partitioned
    (chunks_parted (λ a b. line_order keys a b ≡ Less) (λ a. is_le (line_order keys a c.args.line)) (le_falls keys c.args.line) c.args.chunks.now h (with_lines c.args.chunks.now c.requires)) (λ a r q k. search rules)

pub returns-clause-before : goal.returns-clause-before
returns-clause-before c = λ h.
    subst (λ n. All (λ a. line_order (key_at c.args.cells.now) a c.args.line ≡ Less) (lines_before c.args.chunks.now n)) (sym c.saturating_sub.ensures)
    (all_before (key_at c.args.cells.now) c.args.line c.args.chunks.now h (with_lines c.args.chunks.now c.requires) c.partition_point.result (begin c h) c.partition_point.ensures.bound)

pub returns-clause-behind : goal.returns-clause-behind
returns-clause-behind c = λ h.
    subst (λ n. All (λ a. line_order (key_at c.args.cells.now) c.args.line a ≡ Less) (lines_behind c.args.chunks.now n)) (sym c.saturating_sub.ensures)
    (all_behind (key_at c.args.cells.now) c.args.line c.args.chunks.now h c.partition_point.result (begin c h))
