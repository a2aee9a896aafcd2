-- One chunk more.
use Rattle.std.proofs.Common.{◌∙◌, ◌++◌, List, ap, ap₂, All, subst, sym, arith, ℕ}
use Rattle.std.proofs.lemmas.List.Elements.{All-push}
use Rattle.jp_index.specs.Chunks.{IsChunk, lines_in}
use Rattle.jp_index.proofs.Flat.{lines_push, slice_more}
use Rattle.jp_index.proofs.chunks.Order.from_sorted.Goals as goal

pub loop-start-preserved : goal.loop-start-preserved
loop-start-preserved c =
    let chunks = c.loop-start.chunks.items in
    let chunk = c.in_ok-chunk_of_lines.field-0 in
    record {
      within = omega (arith, c.min-end.ensures);
      lines = ap lines_in c.in_ok-push.ensures.items
          ∙ (lines_push chunks chunk ∙ (ap₂ (λ (a b : List ℕ). a ++ b) c.loop-start.invariant.lines c.in_ok-chunk_of_lines.ensures.lines
          ∙ slice_more c.args.lines.now c.loop-start.start c.min-end.result (omega (arith, c.min-end.ensures, c.loop-start-test.true))));
      each = subst (All IsChunk) (sym c.in_ok-push.ensures.items) (All-push IsChunk chunks chunk c.loop-start.invariant.each c.in_ok-chunk_of_lines.ensures.chunk);
    }
