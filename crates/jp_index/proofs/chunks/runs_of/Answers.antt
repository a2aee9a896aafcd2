-- One chunk more.
use Rattle.std.proofs.Common.{◌≡◌, ◌∙◌, ◌++◌, List, ap, ap₂, filter, subst, sym, ℕ}
use Rattle.std.proofs.lemmas.List.{take_all}
use Rattle.jp_syntax.specs.View.{op_view}
use Rattle.jp_index.specs.ByKey.{Ascend}
use Rattle.jp_index.specs.Cells.{key_at}
use Rattle.jp_index.specs.Chunks.{lines_in}
use Rattle.jp_index.specs.Edges.{is_between}
use Rattle.jp_index.proofs.Flat.{chunk_ascends, chunk_is, run_more}
use Rattle.jp_index.proofs.chunks.runs_of.Goals as goal

pub loop-chunk-preserved : goal.loop-chunk-preserved
loop-chunk-preserved c = record {
  lines = λ h.
      let keys = key_at c.args.cells.now in
      let chunks = c.args.chunks.now in
      let i = c.loop-chunk.chunk-index in
      let chunk = c.chunk-item.result in
      let rises : Ascend keys chunk.items = subst (Ascend keys) (sym (chunk_is chunks i chunk c.loop-chunk-test.true c.chunk-item.is)) (chunk_ascends keys chunks i c.loop-chunk-test.true h) in
      let run = subst (λ ls. Ascend keys ls → c.run_of.result.now ≡ filter (λ a. is_between (op_view c.args.op) (keys a) c.args.key.now) ls) c.deref.ensures.value c.run_of.ensures rises in
      c.in_ok-extend_from_slice.ensures.items ∙ (ap₂ (λ (a b : List ℕ). a ++ b) (c.loop-chunk.invariant.lines h) run ∙ sym (run_more (λ a. is_between (op_view c.args.op) (keys a) c.args.key.now) chunks i chunk c.loop-chunk-test.true c.chunk-item.is));
}

pub returns : goal.returns
returns c = λ h.
    c.loop-chunk.invariant.lines h
    ∙ ap (λ cs. filter (λ a. is_between (op_view c.args.op) (key_at c.args.cells.now a) c.args.key.now) (lines_in cs)) (take_all c.loop-chunk.chunk-index c.args.chunks.now c.loop-chunk-test.false)
