-- One more bucket begins.
use Rattle.std.proofs.Common.{◌∙◌, ◌+◌, ◌∷◌, [], length, sym, ap, subst, arith}
use Rattle.std.proofs.lemmas.List.{length-append}
use Rattle.jp_listed.specs.Slots.{AreStarts, IsStart}
use Rattle.jp_listed.proofs.Order.{more_starts, start_here}
use Rattle.jp_listed.proofs.slot.find_starts.Goals as goal

pub loop-bucket-preserved : goal.loop-bucket-preserved
loop-bucket-preserved c =
    let width = c.args.width in
    let slots = c.args.slots.now in
    let starts = c.loop-bucket.starts.items in
    let first = c.first_of_bucket-first.result in
    let found = c.first_of_bucket-first.ensures in
    let before = c.loop-bucket.invariant in
    let is = start_here width slots c.loop-bucket.bucket c.loop-bucket.first first c.requires.wide c.requires.rising before.3 found.before found.within found.there in
    let items = c.in_ok-push.ensures.items in (
      subst (AreStarts width slots) (sym items) (more_starts width slots starts first before.0 (subst (λ b. IsStart width slots b first) (sym before.1) is)),
      ap length items ∙ length-append starts (first ∷ []) ∙ ap (λ n. n + 1) before.1,
      found.within,
      λ k d low high. omega (arith, is.cut.0 k d low high),
    )
