use Rattle.std.proofs.Common.{◌≡◌, ℕ, ◌+◌, ◌-◌, ◌<◌, ◌≤◌, arith, refl, sym, ap, subst, ◌∙◌}
use Rattle.jp_cut.specs.Passing.{open_before}
use Rattle.jp_cut.proofs.BracketBits.{bit_false, bit_true, closed, closes_there, opened, same_until, stays_more, stays_until}
use Rattle.jp_cut.proofs.skipping.find_end.Goals as goal
use Rattle.jp_cut.proofs.skipping.find_end.Goals.{then-opening-at-eq1, else-opening-at-eq1+else-now-eq1}

pub loop-from-init : goal.loop-from-init
unfolding open_before
loop-from-init c = record {
  within = omega arith;
  is = refl;
  stays = λ i low. let e : i ≡ 0 = omega (arith, low) in subst (λ k. 0 < open_before c.args.opening c.args.closing c.args.depth k) (sym e) c.requires.some;
  most = omega arith;
}

pub returns-then-at-eq-BLOCK-clause-stays : goal.returns-then-at-eq-BLOCK-clause-stays
returns-then-at-eq-BLOCK-clause-stays c =
    stays_until c.args.opening c.args.closing c.args.depth c.loop-from.from 64
    (λ i order low. c.first_bit-at.ensures.between i order (omega (arith, low, c.if-at-eq-BLOCK.true))) c.loop-from.invariant.stays

pub returns-then-now-eq1-clause-stays : goal.returns-then-now-eq1-clause-stays
returns-then-now-eq1-clause-stays c =
    stays_until c.args.opening c.args.closing c.args.depth c.loop-from.from c.first_bit-at.result c.first_bit-at.ensures.between c.loop-from.invariant.stays

pub returns-then-now-eq1-clause-closes : goal.returns-then-now-eq1-clause-closes
returns-then-now-eq1-clause-closes c = λ low.
    let at = c.first_bit-at.result in (
      same_until c.args.opening c.args.closing c.args.depth c.loop-from.from at c.first_bit-at.ensures.from c.first_bit-at.ensures.between ∙ sym c.loop-from.invariant.is ∙ c.if-now-eq1.true,
      closes_there c.args.opening c.args.closing c.args.depth at (c.first_bit-at.ensures.there low) (bit_false c.args.opening at c.if-opening-at-eq1.false),
    )

pub loop-from-preserved : goal.loop-from-preserved
loop-from-preserved c =
    let opening = c.args.opening in
    let closing = c.args.closing in
    let depth = c.args.depth in
    let at = c.first_bit-at.result in
    let low : at < 64 = omega (arith, c.first_bit-at.ensures.within, c.if-at-eq-BLOCK.false) in
    let stays = stays_until opening closing depth c.loop-from.from at c.first_bit-at.ensures.between c.loop-from.invariant.stays in
    let is : open_before opening closing depth at ≡ c.loop-from.now =
    same_until opening closing depth c.loop-from.from at c.first_bit-at.ensures.from c.first_bit-at.ensures.between ∙ sym c.loop-from.invariant.is in
    elim c.if-opening-at-eq1.branch [
      | then-opening-at-eq1 w ↦ (let more = opened opening closing depth at (bit_true opening at w.if-opening-at-eq1.true) in record {
        within = omega (arith, low);
        is = omega (arith, w.now-is, more, is);
        stays = stays_more opening closing depth at stays (omega (arith, more));
        most = omega (arith, w.now-is, c.loop-from.invariant.most, c.first_bit-at.ensures.from);
      })
      | else-opening-at-eq1+else-now-eq1 w ↦ (let less = closed opening closing depth at (c.first_bit-at.ensures.there low) (bit_false opening at w.if-opening-at-eq1.false) in record {
        within = omega (arith, low);
        is = omega (arith, w.now-is, less, is);
        stays = stays_more opening closing depth at stays (omega (arith, less, is, w.if-now-eq1.false, stays at (omega arith)));
        most = omega (arith, w.now-is, c.loop-from.invariant.most, c.first_bit-at.ensures.from);
      })
    ]
