use Rattle.std.proofs.Common.{ℕ, List, ◌∷◌, [], ◌++◌, length, drop, map, sym, subst}
use Rattle.std.proofs.lemmas.Iterator.{YieldsList-from_chars}
use Rattle.std.proofs.lemmas.Iterator.Consumers.{YieldsList-turn, YieldsList-end}
use Rattle.std.specs.Str.{chars}
use Rattle.jp_iregexp.specs.States.{Leads}
use Rattle.jp_iregexp.specs.Layouts.{state_of}
use Rattle.jp_iregexp.proofs.Leading.{stepped, scalar_behind, leads_nowhere, nothing_left}
use Rattle.jp_iregexp.proofs.automaton.Automaton.accepts_any.Goals as goal

pub returns-then-waiting-eq0 : goal.returns-then-waiting-eq0
returns-then-waiting-eq0 c =
    let l = c.loop-scalar in
    let states = map state_of c.args.self.now.states.items in
    let text : List ℕ = chars c.args.text.now in
    let t = YieldsList-turn (YieldsList-from_chars c.args.text.now c.utf8.text cc) l.yielded _ l.yielded_by _ _ c.in-Some.scalar c.in-Some.is c.next.ensures.steps in
    let cut = scalar_behind text l.yielded c.in-Some.scalar t.0 t.1 in
    let rest = drop (length (l.yielded ++ c.in-Some.scalar ∷ [])) text in
    let s = stepped states l.waiting c.step-waiting.result c.in-Some.scalar rest c.step-waiting.ensures in (
      (λ h. absurd (cc)),
      (λ h. absurd (leads_nowhere states rest (subst (λ n. Leads states n rest) c.if-waiting-eq0.true (s.0 (subst (Leads states l.waiting) cut (l.invariant.1 h)))))),
    )

pub loop-scalar-preserved : goal.loop-scalar-preserved
loop-scalar-preserved c =
    let l = c.loop-scalar in
    let states = map state_of c.args.self.now.states.items in
    let text : List ℕ = chars c.args.text.now in
    let t = YieldsList-turn (YieldsList-from_chars c.args.text.now c.utf8.text cc) l.yielded _ l.yielded_by _ _ c.in-Some.scalar c.in-Some.is c.next.ensures.steps in
    let cut = scalar_behind text l.yielded c.in-Some.scalar t.0 t.1 in
    let rest = drop (length (l.yielded ++ c.in-Some.scalar ∷ [])) text in
    let s = stepped states l.waiting c.step-waiting.result c.in-Some.scalar rest c.step-waiting.ensures in (
      (λ h. l.invariant.0 (subst (Leads states l.waiting) (sym cut) (s.1 h))),
      (λ h. s.0 (subst (Leads states l.waiting) cut (l.invariant.1 h))),
    )

pub returns : goal.returns
returns c =
    let l = c.loop-scalar in
    let states = map state_of c.args.self.now.states.items in
    let text : List ℕ = chars c.args.text.now in
    let t = YieldsList-end (YieldsList-from_chars c.args.text.now c.utf8.text cc) l.yielded _ l.yielded_by _ _ c.in-None.is c.next.ensures.steps in
    let none = nothing_left text (length l.yielded) t.1 in (
      (λ h. l.invariant.0 (subst (Leads states l.waiting) (sym none) (c.has_end.ensures.0 h))),
      (λ h. c.has_end.ensures.1 (subst (Leads states l.waiting) none (l.invariant.1 h))),
    )
