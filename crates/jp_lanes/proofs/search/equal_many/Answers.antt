use Rattle.std.proofs.Common.{◌∙◌, ◌-◌, sym, arith, length, take, drop, ap}
use Rattle.std.proofs.lemmas.List.{take_rest}
use Rattle.std.proofs.lemmas.Slice.Eq.{bytes_eq-Decides}
use Rattle.jp_lanes.proofs.SearchLanes.{same_blocks, same_whole}
use Rattle.jp_lanes.proofs.search.equal_many.Goals as goal

pub loop-at-preserved : goal.loop-at-preserved
loop-at-preserved c =
    let same = c.equal_blocks.ensures.0 c.if-not-equal_blocks.false in
    (omega arith, same_blocks c.loop-at.at 64 c.args.a.now c.args.b.now c.loop-at.invariant.1 same)

pub returns : goal.returns
returns c =
    let at = c.loop-at.at in
    let a = c.args.a.now in
    let b = c.args.b.now in
    let decides = bytes_eq-Decides (take (length a - at) (drop at a)) (take (length b - at) (drop at b)) in (
      λ t. same_whole at a b c.loop-at.invariant.1 (sym (take_rest a at) ∙ (decides.0 (sym c.eq.ensures ∙ t) ∙ take_rest b at)),
      λ e. c.eq.ensures ∙ decides.1 (ap (λ xs. take (length xs - at) (drop at xs)) e),
    )
