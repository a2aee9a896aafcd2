use Rattle.std.proofs.Common.{◌≡◌, ◌+◌, ◌≤◌, length, take, drop, sym, ap, subst, ◌∙◌, arith}
use Rattle.std.proofs.lemmas.List.{length-drop, length-take-le, take_rest}
use Rattle.std.proofs.lemmas.List.Sums.{count_by-le-length}
use Rattle.std.specs.Prelude.{◌==◌}
use Rattle.jp_cut.specs.Cuts.{line_feeds_in}
use Rattle.jp_cut.proofs.LineFeeds.{joined, of_block, whole}
use Rattle.jp_cut.proofs.cutter.count_in_blocks.Goals as goal

pub loop-block-preserved : goal.loop-block-preserved
loop-block-preserved c =
    let bytes = c.args.bytes.now in
    let from = c.loop-block.from in
    let block = c.in-Some.block.now in
    let chunk = c.in-Some.ensures.cases in
    let rest = take_rest bytes from in
    let is : block ≡ take 64 (drop from bytes) = chunk.same ∙ ap (take 64) rest in
    let left : 64 ≤ length (drop from bytes) = subst (λ some. 64 ≤ length some) rest chunk.enough in
    let long : length block ≡ 64 = ap length is ∙ length-take-le 64 (drop from bytes) left in
    let count = of_block block c.classify.result.line_feed long (omega (arith, c.classify.type_inv.1.1.1.1.1)) c.classify.ensures.line_feed ∙ ap line_feeds_in is in
    record {
      within = omega (arith, left, length-drop from bytes);
      is = omega (arith, count, joined bytes from 64, c.loop-block.invariant.is);
      few = omega (arith, count, count_by-le-length (λ byte. byte == 0x0A) (take 64 (drop from bytes)), length-take-le 64 (drop from bytes) left, c.loop-block.invariant.few);
    }

pub returns : goal.returns
returns c =
    let bytes = c.args.bytes.now in
    let from = c.loop-block.from in
    omega (arith, c.loop-block.invariant.is, c.count_in_rest.ensures, ap line_feeds_in (take_rest bytes from), whole bytes from c.loop-block.invariant.within)
