use Rattle.std.proofs.Common.{◌<◌, ◌≤◌, ◌==◌, ℕ, ◌+◌, inl, inr, length, get_or, rules, arith, sym, ◌∙◌, subst, w64}
use Rattle.std.specs.Int.{bit_at}
use Rattle.std.proofs.Math.ListN.{get_or-eq_default}
use Rattle.std.proofs.lemmas.Bool.{eqb-true, eq-eqb}
use Rattle.std.proofs.lemmas.Nat.Bits.{bit_at-zero, shr_and_one}
use Rattle.jp_iregexp.specs.States.{HasState}
use Rattle.jp_iregexp.proofs.Masks.{IsMaskBelow, no_mask, take_mask, skip_mask, below_or_past}
use Rattle.jp_iregexp.proofs.automaton.having.Goals as goal
use Rattle.jp_iregexp.proofs.automaton.having.Goals.{then-codes-code-eq1, else-codes-code-eq1}

pub loop-number-init : goal.loop-number-init
loop-number-init c = no_mask (λ (p : ℕ). bit_at (get_or c.args.sets.now p 0) c.args.code == 1)

pub loop-number-preserved : goal.loop-number-preserved
loop-number-preserved c =
    let l = c.loop-number in
    let test = λ (p : ℕ). bit_at (get_or c.args.sets.now p 0) c.args.code == 1 in
    let set = get_or c.args.sets.now l.number 0 in
    let few : l.number < 64 = omega (arith, c.requires.few) in
    elim c.if-codes-code-eq1.branch [
      | then-codes-code-eq1 w ↦ subst (IsMaskBelow test (l.number + 1)) (sym w.all-is) (take_mask w64 test l.number l.all few l.invariant (eq-eqb (bit_at set c.args.code) 1 (sym (shr_and_one set c.args.code) ∙ w.if-codes-code-eq1.true)))
      | else-codes-code-eq1 w ↦ subst (IsMaskBelow test (l.number + 1)) (sym w.all-is) (skip_mask test l.number l.all l.invariant (λ h. w.if-codes-code-eq1.false (shr_and_one set c.args.code ∙ eqb-true (bit_at set c.args.code) 1 h)))
    ]

pub returns : goal.returns
returns c =
    let l = c.loop-number in
    let sets = c.args.sets.now in
    let all : length sets ≤ l.number = search rules in
    λ p. (
      (λ h. eqb-true (bit_at (get_or sets p 0) c.args.code) 1 (l.invariant.sound p h)),
      (λ h. elim (below_or_past p l.number) [
        | inl i ↦ l.invariant.complete p i (eq-eqb (bit_at (get_or sets p 0) c.args.code) 1 h)
        | inr i ↦ absurd (let none = bit_at-zero c.args.code in let there = subst (λ n. HasState n c.args.code) (get_or-eq_default sets 0 (omega (arith, all, i))) h in omega (arith, none, there))
      ]),
    )
