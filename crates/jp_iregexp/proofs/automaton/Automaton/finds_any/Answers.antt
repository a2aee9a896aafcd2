use Rattle.std.proofs.Common.{ℕ, List, ◌∷◌, [], ◌++◌, length, drop, map, refl, subst}
use Rattle.std.proofs.lemmas.Iterator.{YieldsList-from_chars}
use Rattle.std.proofs.lemmas.Iterator.Consumers.{YieldsList-turn, YieldsList-end}
use Rattle.std.specs.Str.{chars}
use Rattle.jp_iregexp.specs.Layouts.{state_of}
use Rattle.jp_iregexp.proofs.Leading.{scalar_behind, nothing_left}
use Rattle.jp_iregexp.proofs.Finding.{IsFinding, start_finding, is_found, find_on, not_found}
use Rattle.jp_iregexp.proofs.automaton.Automaton.finds_any.Goals as goal

pub loop-scalar-init : goal.loop-scalar-init
loop-scalar-init c = start_finding (map state_of c.args.self.now.states.items) c.args.self.now.starts (chars c.args.text.now)

pub returns-then-has_end : goal.returns-then-has_end
returns-then-has_end c =
    let l = c.loop-scalar in
    let it = c.args.self.now in
    let text : List ℕ = chars c.args.text.now in (
      (λ h. is_found (map state_of it.states.items) it.starts l.waiting (drop (length l.yielded) text) text l.invariant (c.has_end.ensures.0 c.if-has_end.true)),
      (λ h. refl),
    )

pub loop-scalar-preserved : goal.loop-scalar-preserved
loop-scalar-preserved c =
    let l = c.loop-scalar in
    let it = c.args.self.now in
    let states = map state_of it.states.items in
    let text : List ℕ = chars c.args.text.now in
    let t = YieldsList-turn (YieldsList-from_chars c.args.text.now c.utf8.text cc) l.yielded _ l.yielded_by _ _ c.in-Some.scalar c.in-Some.is c.next.ensures.steps in
    let cut = scalar_behind text l.yielded c.in-Some.scalar t.0 t.1 in
    let rest = drop (length (l.yielded ++ c.in-Some.scalar ∷ [])) text in
    find_on states it.starts l.waiting c.step.result c.in-Some.scalar rest text (subst (λ r. IsFinding states it.starts l.waiting r text) cut l.invariant)
    (λ h. absurd (let yes = c.has_end.ensures.1 h in let no = c.if-has_end.false in cc)) c.step.ensures

pub returns : goal.returns
returns c =
    let l = c.loop-scalar in
    let it = c.args.self.now in
    let states = map state_of it.states.items in
    let text : List ℕ = chars c.args.text.now in
    let t = YieldsList-end (YieldsList-from_chars c.args.text.now c.utf8.text cc) l.yielded _ l.yielded_by _ _ c.in-None.is c.next.ensures.steps in
    let none = nothing_left text (length l.yielded) t.1 in
    let last = subst (λ r. IsFinding states it.starts l.waiting r text) none l.invariant in (
      (λ h. is_found states it.starts l.waiting [] text last (c.has_end-2.ensures.0 h)),
      (λ o. c.has_end-2.ensures.1 (not_found states it.starts l.waiting text last o)),
    )
