use Rattle.std.proofs.Common.{ℕ, ◌+◌, ◌≤◌, length, drop, map, refl, sym, ◌∙◌, ap, subst, arith}
use Rattle.std.proofs.lemmas.List.{at_drop_all}
use Rattle.std.proofs.lemmas.Str.{chars-nil}
use Rattle.std.specs.Int.Bits.{or_zero_l}
use Rattle.std.specs.Str.{chars}
use Rattle.jp_iregexp.specs.Layouts.{state_of}
use Rattle.jp_iregexp.specs.States.{HasState}
use Rattle.jp_iregexp.proofs.AsciiSteps.{ready_step, none_after}
use Rattle.jp_iregexp.proofs.Finding.{IsFinding, start_finding, is_found, find_byte, not_found}
use Rattle.jp_iregexp.proofs.automaton.Automaton.finds.Goals as goal
use Rattle.jp_iregexp.proofs.automaton.Automaton.finds.Goals.{then-ready-eq0, else-ready-eq0+else-has_end-2}

pub loop-byte-init : goal.loop-byte-init
loop-byte-init c =
    let it = c.args.self.now in
    let not_yet : HasState it.starts 63 → ⊥ = λ h. absurd (let yes = c.has_end.ensures.1 h in let no = c.if-has_end.false in cc) in
    (start_finding (map state_of it.states.items) it.starts (chars c.args.text.now), not_yet, not_yet)

pub loop-byte-preserved : goal.loop-byte-preserved
loop-byte-preserved c =
    let l = c.loop-byte in
    let it = c.args.self.now in
    let text = c.args.text.now in
    let kept = λ (waiting : ℕ). IsFinding (map state_of it.states.items) it.starts waiting (chars (drop (l.byte-index + 1) text)) (chars text) × (HasState it.starts 63 → ⊥) × (HasState waiting 63 → ⊥) in
    let on = λ (next : ℕ). find_byte (map state_of it.states.items) it.starts l.waiting next text c.as_bytes-byte-items.result.now l.byte-index c.as_bytes-byte-items.ensures.value c.loop-byte-test.true c.in-Some.ensures.ascii l.invariant.0 l.invariant.2 in
    elim c.if-ready-eq0.branch [
      | then-ready-eq0 w ↦
          let found = on 0 (none_after it l.waiting _ c.in-Some.ready c.in-Some.ensures.ascii c.in-Some.ensures.ready w.if-ready-eq0.true) in
          subst kept (sym w.waiting-is) (subst (λ n. IsFinding (map state_of it.states.items) it.starts n (chars (drop (l.byte-index + 1) text)) (chars text)) (or_zero_l it.starts) found, l.invariant.1, l.invariant.1)
      | else-ready-eq0+else-has_end-2 w ↦
          let found = on w.after.result (ready_step it l.waiting _ c.in-Some.ready w.after.result c.in-Some.ensures.ascii c.in-Some.ensures.ready w.after.ensures) in
          subst kept (sym w.waiting-is) (found, l.invariant.1, λ h. absurd (let yes = w.has_end-else-ready-eq0.ensures.1 h in let no = w.if-has_end-2.false in cc))
    ]

pub returns-then-has_end : goal.returns-then-has_end
returns-then-has_end c =
    let it = c.args.self.now in
    let states = map state_of it.states.items in
    let text = chars c.args.text.now in (
      (λ h. is_found states it.starts it.starts text text (start_finding states it.starts text) (c.has_end.ensures.0 c.if-has_end.true)),
      (λ o. refl),
    )

pub returns-then-has_end-2 : goal.returns-then-has_end-2
returns-then-has_end-2 c =
    let l = c.loop-byte in
    let it = c.args.self.now in
    let step = ready_step it l.waiting _ c.in-Some.ready c.after.result c.in-Some.ensures.ascii c.in-Some.ensures.ready c.after.ensures in
    let found = find_byte (map state_of it.states.items) it.starts l.waiting c.after.result c.args.text.now c.as_bytes-byte-items.result.now l.byte-index c.as_bytes-byte-items.ensures.value c.loop-byte-test.true c.in-Some.ensures.ascii l.invariant.0 l.invariant.2 step in (
      (λ h. is_found (map state_of it.states.items) it.starts _ _ _ found (c.has_end-else-ready-eq0.ensures.0 c.if-has_end-2.true)),
      (λ o. refl),
    )

pub returns : goal.returns
returns c =
    let l = c.loop-byte in
    let it = c.args.self.now in
    let states = map state_of it.states.items in
    let text = c.args.text.now in
    let all : length text ≤ l.byte-index = omega (arith, c.loop-byte-test.false, ap length c.as_bytes-byte-items.ensures.value) in
    let last = subst (λ r. IsFinding states it.starts l.waiting r (chars text)) (at_drop_all chars text l.byte-index all ∙ chars-nil) l.invariant.0 in (
      (λ h. absurd (cc)),
      (λ o. absurd (l.invariant.2 (not_found states it.starts l.waiting (chars text) last o))),
    )
