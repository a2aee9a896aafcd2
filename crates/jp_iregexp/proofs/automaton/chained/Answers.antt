use Rattle.std.proofs.Common.{◌<◌, ◌≤◌, ◌+◌, inl, inr, length, map, rules, arith, sym, ◌∙◌, ap, subst, w64}
use Rattle.jp_iregexp.specs.Layouts.{state_of}
use Rattle.jp_iregexp.specs.States.{is_chained, is_link}
use Rattle.jp_iregexp.proofs.Chains.{past_chained}
use Rattle.jp_iregexp.proofs.Masks.{IsMaskBelow, after_here, no_mask, take_mask, skip_mask, below_or_past}
use Rattle.jp_iregexp.proofs.automaton.chained.Goals as goal
use Rattle.jp_iregexp.proofs.automaton.chained.Goals.{then-is_link, else-is_link}

pub loop-number-init : goal.loop-number-init
loop-number-init c = no_mask (is_chained (map state_of c.args.states.now))

pub loop-number-preserved : goal.loop-number-preserved
loop-number-preserved c =
    let l = c.loop-number in
    let test = is_chained (map state_of c.args.states.now) in
    let few : l.number < 64 = omega (arith, c.requires) in
    let here = after_here c.args.states.now l.number c.index-states-number.result (search rules) c.index-states-number.is in
    let link = ap (λ n. is_link n l.number) here ∙ sym c.is_link.ensures in
    elim c.if-is_link.branch [
      | then-is_link w ↦ subst (IsMaskBelow test (l.number + 1)) (sym w.all-is) (take_mask w64 test l.number l.all few l.invariant (link ∙ w.if-is_link.true))
      | else-is_link w ↦ subst (IsMaskBelow test (l.number + 1)) (sym w.all-is) (skip_mask test l.number l.all l.invariant (λ h. absurd (let no = w.if-is_link.false in cc)))
    ]

pub returns : goal.returns
returns c p =
    let l = c.loop-number in
    let all : length c.args.states.now ≤ l.number = search rules in (
      (λ h. l.invariant.sound p h),
      (λ h. elim (below_or_past p l.number) [ inl i ↦ l.invariant.complete p i h | inr i ↦ absurd (past_chained c.args.states.now p (omega (arith, all, i)) h) ]),
    )
