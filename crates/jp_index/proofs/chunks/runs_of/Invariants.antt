-- Those of the chunks so far.
use Rattle.std.proofs.Common.{◌≡◌, take, filter}
use Rattle.jp_syntax.specs.View.{op_view}
use Rattle.jp_index.specs.ByKey.{Ascend}
use Rattle.jp_index.specs.Cells.{key_at}
use Rattle.jp_index.specs.Chunks.{lines_in}
use Rattle.jp_index.specs.Edges.{is_between}
use Rattle.jp_index.proofs.chunks.runs_of.Given as goal

abbrev pub invariant-loop-chunk : goal.invariant-loop-chunk
invariant-loop-chunk l = record {
  lines : Ascend (key_at l.cells) (lines_in l.chunks) → l.lines.items ≡ filter (λ a. is_between (op_view l.op) (key_at l.cells a) l.key) (lines_in (take l.chunk-index l.chunks));
}
