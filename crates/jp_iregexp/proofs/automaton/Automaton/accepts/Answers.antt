use Rattle.std.proofs.Common.{◌+◌, ◌≤◌, length, drop, map, arith, sym, ◌∙◌, ap, subst}
use Rattle.std.proofs.lemmas.List.{at_drop_all}
use Rattle.std.proofs.lemmas.Str.{chars-nil}
use Rattle.std.specs.Str.{chars}
use Rattle.jp_iregexp.specs.States.{Leads}
use Rattle.jp_iregexp.specs.Layouts.{state_of}
use Rattle.jp_iregexp.proofs.AsciiSteps.{ready_step, none_after, leads_byte}
use Rattle.jp_iregexp.proofs.Leading.{leads_nowhere}
use Rattle.jp_iregexp.proofs.automaton.Automaton.accepts.Goals as goal

pub returns-then-ready-eq0 : goal.returns-then-ready-eq0
returns-then-ready-eq0 c =
    let l = c.loop-byte in
    let it = c.args.self.now in
    let step = none_after it l.waiting _ c.in-Some.ready c.in-Some.ensures.ascii c.in-Some.ensures.ready c.if-ready-eq0.true in
    let on = leads_byte (map state_of it.states.items) l.waiting 0 c.args.text.now c.as_bytes-byte-items.result.now l.byte-index c.as_bytes-byte-items.ensures.value c.loop-byte-test.true c.in-Some.ensures.ascii step in (
      (λ h. absurd (cc)),
      (λ h. absurd (leads_nowhere (map state_of it.states.items) (chars (drop (l.byte-index + 1) c.args.text.now)) (on.0 (l.invariant.1 h)))),
    )

pub loop-byte-preserved : goal.loop-byte-preserved
loop-byte-preserved c =
    let l = c.loop-byte in
    let it = c.args.self.now in
    let step = ready_step it l.waiting _ c.in-Some.ready c.after-waiting.result c.in-Some.ensures.ascii c.in-Some.ensures.ready c.after-waiting.ensures in
    let on = leads_byte (map state_of it.states.items) l.waiting c.after-waiting.result c.args.text.now c.as_bytes-byte-items.result.now l.byte-index c.as_bytes-byte-items.ensures.value c.loop-byte-test.true c.in-Some.ensures.ascii step in
    ((λ h. l.invariant.0 (on.1 h)), (λ h. on.0 (l.invariant.1 h)))

pub returns : goal.returns
returns c =
    let l = c.loop-byte in
    let states = map state_of c.args.self.now.states.items in
    let text = c.args.text.now in
    let all : length text ≤ l.byte-index = omega (arith, c.loop-byte-test.false, ap length c.as_bytes-byte-items.ensures.value) in
    let none = at_drop_all chars text l.byte-index all ∙ chars-nil in (
      (λ h. l.invariant.0 (subst (Leads states l.waiting) (sym none) (c.has_end.ensures.0 h))),
      (λ h. c.has_end.ensures.1 (subst (Leads states l.waiting) none (l.invariant.1 h))),
    )
