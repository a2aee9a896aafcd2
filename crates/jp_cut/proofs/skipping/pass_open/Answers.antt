use Rattle.std.proofs.Common.{◌≡◌, ◌+◌, ◌<◌, ◌≤◌, length, take, drop, sym, ap, subst, ◌∙◌, arith}
use Rattle.std.proofs.lemmas.List.{length-drop, length-take, take_rest}
use Rattle.jp_cut.specs.Passing.{Passes}
use Rattle.jp_cut.specs.declared.machine.Known.{Known}
use Rattle.jp_cut.proofs.Passing.{behind_all_le, part_of, passes_on, still_open}
use Rattle.jp_cut.proofs.skipping.pass_open.Goals as goal

pub returns-then-part-lt-BLOCK-clause-passes : goal.returns-then-part-lt-BLOCK-clause-passes
returns-then-part-lt-BLOCK-clause-passes c =
    let before = c.loop-block in
    let part = c.pass_block-part in
    let bytes = c.args.bytes.now in
    let is = c.in-Some.ensures.cases.same ∙ ap (take 64) (take_rest bytes before.passed.len) in
    passes_on c.args.known before.passed.known part.result.known bytes before.passed.len part.result.len before.invariant.passes
    (subst (λ some. Passes before.passed.known some part.result.known) (part_of bytes c.in-Some.block.now before.passed.len 64 part.result.len is part.ensures.within) part.ensures.passes)

pub returns-then-part-lt-BLOCK-clause-depth : goal.returns-then-part-lt-BLOCK-clause-depth
returns-then-part-lt-BLOCK-clause-depth c =
    let part = c.pass_block-part in
    let grown = behind_all_le c.loop-block.passed.known (take part.result.len c.in-Some.block.now) in
    omega (arith, grown, length-take part.result.len c.in-Some.block.now, c.loop-block.invariant.most, ap (λ (k : Known). k.depth) part.ensures.passes.same)

pub loop-block-preserved : goal.loop-block-preserved
loop-block-preserved c =
    let before = c.loop-block in
    let block = c.in-Some.block.now in
    let part = c.pass_block-part in
    let bytes = c.args.bytes.now in
    let chunk = c.in-Some.ensures.cases in
    let rest = take_rest bytes before.passed.len in
    let is : block ≡ take 64 (drop before.passed.len bytes) = chunk.same ∙ ap (take 64) rest in
    let left : 64 ≤ length (drop before.passed.len bytes) = subst (λ some. 64 ≤ length some) rest chunk.enough in
    let grown = behind_all_le before.passed.known (take part.result.len block) in
    record {
      within = omega (arith, left, part.ensures.within, length-drop before.passed.len bytes);
      passes = passes_on c.args.known before.passed.known part.result.known bytes before.passed.len part.result.len before.invariant.passes
          (subst (λ some. Passes before.passed.known some part.result.known) (part_of bytes block before.passed.len 64 part.result.len is part.ensures.within) part.ensures.passes);
      some = subst (λ (k : Known). 0 < k.depth) (sym part.ensures.passes.same) (still_open before.passed.known (take part.result.len block) part.ensures.passes.stays);
      most = omega (arith, grown, length-take part.result.len block, before.invariant.most, ap (λ (k : Known). k.depth) part.ensures.passes.same);
    }
