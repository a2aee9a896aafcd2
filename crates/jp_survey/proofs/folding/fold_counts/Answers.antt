-- No place has come at first, and then each comes where it is to.
use Rattle.std.proofs.Common.{◌≡◌, List, ap, arith, ◌<◌, ℕ, get_or, length, subst, sym}
use Rattle.std.proofs.lemmas.Grind.{common_steps}
use Rattle.std.proofs.lemmas.List.{length-replicate}
use Rattle.jp_survey.specs.Counts.{Adds, Joined, counts_at, no_counts}
use Rattle.jp_survey.specs.declared.count.PlaceCounts.{PlaceCounts}
use Rattle.jp_survey.proofs.Joining.{adds_length, joined_more, joined_none}
use Rattle.jp_survey.proofs.folding.fold_counts.Goals as goal

pub loop-place-2-init : goal.loop-place-2-init
loop-place-2-init c =
    let none = c.loop-place.invariant in let long = ap length none in let all = length-replicate c.loop-place._place no_counts in
    record {
      joined = subst (λ (new : List PlaceCounts). Joined c.args.counts.now.places.items new c.args.places.now 0) (sym none)
          (joined_none c.args.counts.now.places.items c.args.places.now c.loop-place._place);
      many = omega (arith, long, all);
    }

pub loop-place-2-preserved : goal.loop-place-2-preserved
loop-place-2-preserved c =
    let counts = c.args.counts.now.places.items in let to = c.args.places.now in let n = c.loop-place-2.place in
    let old = c.loop-place-2.folded.places.items in let new = c.add.new.self.places.items in let was = c.loop-place-2.invariant in
    let at : c.in_ok-to.field-0.now ≡ get_or to n 0 = grind (arith, common_steps) in
    let known : n < length to = grind (arith, common_steps) in
    let all = ap length c.deref-some-items.ensures.value in
    let adds : Adds old new (get_or to n 0) (counts_at counts n) =
    subst (λ (p : ℕ). Adds old new p (counts_at counts n)) at
    (subst (λ (cs : List PlaceCounts). Adds old new c.in_ok-to.field-0.now (counts_at cs n)) c.deref-some-items.ensures.value c.in_ok-add.ensures.adds) in
    let long = adds_length old new (get_or to n 0) (counts_at counts n) adds in
    record {
      joined = joined_more counts old new to n was.joined (omega (arith, all)) known adds;
      many = omega (arith, long, was.many);
    }
