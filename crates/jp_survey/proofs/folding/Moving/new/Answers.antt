-- The root alone has moved, to the root.
use Rattle.std.proofs.Common.{◌≡◌, ◌∙◌, ℕ, zero, suc, ◌<◌, Some, ap, arith, length, sym}
use Rattle.std.proofs.lemmas.Option.{same_Some}
use Rattle.jp_survey.specs.Movings.{moved_to}
use Rattle.jp_survey.proofs.Moving.{none_moved}
use Rattle.jp_survey.proofs.folding.Moving.new.Goals as goal

pub returns-clause-counted : goal.returns-clause-counted
returns-clause-counted c = record {
  linked = c.in_ok-new.ensures.linked;
  told = c.in_ok-new-2.ensures.linked.counted;
  within = λ k place e. within k place e;
}
  where
    within : (k place : ℕ) → moved_to c.loop-place.places.items k ≡ Some place → place < length c.in_ok-new.field-0.links.keys
    within zero place e =
        let first = same_Some 0 place (sym c.loop-place.invariant.root ∙ e) in let one = ap length c.in_ok-new.ensures.links in omega (arith, first, one)
    within (suc k) place e = absurd (let none = c.loop-place.invariant.rest (suc k) (omega arith) in cc)

pub returns-clause-moving : goal.returns-clause-moving
returns-clause-moving c fold names links h many =
    let was = c.loop-place.invariant in let some = h.some in
    none_moved fold names links c.in_ok-new-2.field-0.links.keys c.in_ok-new.field-0.links.keys c.loop-place.places.items h c.in_ok-new-2.ensures.links c.in_ok-new.ensures.links
    (omega (arith, was.many, many, some)) was.root was.rest
