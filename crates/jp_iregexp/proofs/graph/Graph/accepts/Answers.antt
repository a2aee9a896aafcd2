use Rattle.std.proofs.Common.{◌↔◌, ℕ, List, ◌∷◌, [], ◌++◌, length, drop, arith, sym, ◌∙◌, ap, subst}
use Rattle.std.proofs.lemmas.Bool.{eqb-true}
use Rattle.std.proofs.lemmas.Iterator.{YieldsList-from_chars}
use Rattle.std.proofs.lemmas.Iterator.Consumers.{YieldsList-turn, YieldsList-end}
use Rattle.std.specs.Str.{chars}
use Rattle.jp_iregexp.specs.declared.waiting.Waiting.{Waiting}
use Rattle.jp_iregexp.specs.Graphs.{LeadsFrom, SomeLeads}
use Rattle.jp_iregexp.specs.Waiting.{IsMarked, IsReady}
use Rattle.jp_iregexp.proofs.Leading.{scalar_behind, nothing_left}
use Rattle.jp_iregexp.proofs.Walking.{nothing, none_leads, read_closed, read_scalar, ready_closed, ready_end}
use Rattle.jp_iregexp.proofs.graph.Graph.accepts.Goals as goal

pub loop-scalar-preserved : goal.loop-scalar-preserved
loop-scalar-preserved c =
    let l = c.loop-scalar in
    let it = c.args.self.now in
    let states = it.states.items in
    let text : List ℕ = chars c.args.text.now in
    let t = YieldsList-turn (YieldsList-from_chars c.args.text.now c.utf8.text cc) l.yielded _ l.yielded_by _ _ c.in-Some.scalar c.in-Some.is c.next.ensures.steps in
    let cut = scalar_behind text l.yielded c.in-Some.scalar t.0 t.1 in
    let rest = drop (length (l.yielded ++ c.in-Some.scalar ∷ [])) text in
    let on = read_closed states l.waiting c.read.new.next c.close.new.waiting c.in-Some.scalar rest it.ended l.invariant.ready c.in_ok-read.ensures c.in_ok-close.ensures in
    record {
      ready = subst (IsReady states) (sym c.swap.ensures.x_after) (ready_closed states c.read.new.next c.close.new.waiting (let b = c.in_ok-read.ensures in b.size) c.in_ok-close.ensures);
      marked = subst IsMarked (sym c.swap.ensures.y_after) l.invariant.ready.marked;
      size = ap (λ (w : Waiting). length w.has.items) c.swap.ensures.y_after ∙ l.invariant.ready.size;
      leads = subst (λ (w : Waiting). SomeLeads states w.list.items rest ↔ LeadsFrom states it.start text) (sym c.swap.ensures.x_after) (
        (λ h. l.invariant.leads.0 (subst (SomeLeads states l.waiting.list.items) (sym cut) (on.1 h))),
        (λ h. on.0 (subst (SomeLeads states l.waiting.list.items) cut (l.invariant.leads.1 h))),
      );
    }

pub returns-then-is_empty : goal.returns-then-is_empty
returns-then-is_empty c =
    let l = c.loop-scalar in
    let it = c.args.self.now in
    let states = it.states.items in
    let text : List ℕ = chars c.args.text.now in
    let t = YieldsList-turn (YieldsList-from_chars c.args.text.now c.utf8.text cc) l.yielded _ l.yielded_by _ _ c.in-Some.scalar c.in-Some.is c.next.ensures.steps in
    let cut = scalar_behind text l.yielded c.in-Some.scalar t.0 t.1 in
    let rest = drop (length (l.yielded ++ c.in-Some.scalar ∷ [])) text in
    let zero = eqb-true _ _ (sym c.if-is_empty.ensures) in
    let none = nothing c.read.new.next.list.items (let ok = c.read.new.next.list.ok in omega (arith, zero, ok.0)) in (
      (λ h. absurd (cc)),
      (λ h. absurd (none_leads states c.read.new.next.list.items rest none ((read_scalar states l.waiting c.read.new.next c.in-Some.scalar rest it.ended l.invariant.ready c.in_ok-read.ensures).0 (subst (SomeLeads states l.waiting.list.items) cut (l.invariant.leads.1 h))))),
    )

pub returns : goal.returns
returns c =
    let l = c.loop-scalar in
    let it = c.args.self.now in
    let states = it.states.items in
    let text : List ℕ = chars c.args.text.now in
    let t = YieldsList-end (YieldsList-from_chars c.args.text.now c.utf8.text cc) l.yielded _ l.yielded_by _ _ c.in-None.is c.next.ensures.steps in
    let none = nothing_left text (length l.yielded) t.1 in
    let end = ready_end states l.waiting it.ended l.invariant.ready in (
      (λ h. l.invariant.leads.0 (subst (SomeLeads states l.waiting.list.items) (sym none) (end.1 (c.has_end.ensures.0 h)))),
      (λ h. c.has_end.ensures.1 (end.0 (subst (SomeLeads states l.waiting.list.items) none (l.invariant.leads.1 h)))),
    )
