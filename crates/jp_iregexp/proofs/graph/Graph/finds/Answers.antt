use Rattle.std.proofs.Common.{◌≡◌, ℕ, List, ◌∷◌, [], ◌++◌, length, drop, arith, refl, sym, ◌∙◌, ap, subst}
use Rattle.std.proofs.lemmas.Iterator.{YieldsList-from_chars}
use Rattle.std.proofs.lemmas.Iterator.Consumers.{YieldsList-turn, YieldsList-end}
use Rattle.std.specs.Str.{chars}
use Rattle.jp_iregexp.specs.declared.waiting.Waiting.{Waiting}
use Rattle.jp_iregexp.specs.Graphs.{LeadsFrom, SomeLeads}
use Rattle.jp_iregexp.specs.Waiting.{IsMarked, IsReady}
use Rattle.jp_iregexp.proofs.Leading.{scalar_behind, nothing_left}
use Rattle.jp_iregexp.proofs.Searching.{IsSearching, search_start, search_found, search_on, search_end}
use Rattle.jp_iregexp.proofs.Walking.{read_again, ready_closed, ready_end}
use Rattle.jp_iregexp.proofs.graph.Graph.finds.Goals as goal

pub loop-scalar-init : goal.loop-scalar-init
loop-scalar-init c =
    let it = c.args.self.now in
    record {
      ready = c.in_ok-waiting.ensures.ready;
      marked = c.in_ok-next.ensures.marked;
      size = (let all : c.len.result ≡ length it.states.items = omega arith in c.in_ok-next.ensures.size ∙ all);
      searching = search_start (LeadsFrom it.states.items it.start) (SomeLeads it.states.items c.in_ok-waiting.waiting.list.items) (chars c.args.text.now) c.in_ok-waiting.ensures.leads;
    }

pub returns-then-has_end : goal.returns-then-has_end
returns-then-has_end c =
    let l = c.loop-scalar in
    let it = c.args.self.now in
    let text : List ℕ = chars c.args.text.now in
    let end = ready_end it.states.items l.waiting it.ended l.invariant.ready in (
      (λ h. search_found (LeadsFrom it.states.items it.start) (SomeLeads it.states.items l.waiting.list.items) (drop (length l.yielded) text) text l.invariant.searching (end.1 (c.has_end.ensures.0 c.if-has_end.true))),
      (λ h. refl),
    )

pub loop-scalar-preserved : goal.loop-scalar-preserved
loop-scalar-preserved c =
    let l = c.loop-scalar in
    let it = c.args.self.now in
    let states = it.states.items in
    let text : List ℕ = chars c.args.text.now in
    let t = YieldsList-turn (YieldsList-from_chars c.args.text.now c.utf8.text cc) l.yielded _ l.yielded_by _ _ c.in-Some.scalar c.in-Some.is c.next.ensures.steps in
    let cut = scalar_behind text l.yielded c.in-Some.scalar t.0 t.1 in
    let rest = drop (length (l.yielded ++ c.in-Some.scalar ∷ [])) text in
    let end = ready_end states l.waiting it.ended l.invariant.ready in
    let b = c.in_ok-read.ensures in
    let a = c.in_ok-add.ensures in
    record {
      ready = subst (IsReady states) (sym c.swap.ensures.x_after) (ready_closed states c.add.new.self c.close.new.waiting (a.size ∙ b.size) c.in_ok-close.ensures);
      marked = subst IsMarked (sym c.swap.ensures.y_after) l.invariant.ready.marked;
      size = ap (λ (w : Waiting). length w.has.items) c.swap.ensures.y_after ∙ l.invariant.ready.size;
      searching = subst (λ (w : Waiting). IsSearching (LeadsFrom states it.start) (SomeLeads states w.list.items) rest text) (sym c.swap.ensures.x_after)
          (search_on (LeadsFrom states it.start) (SomeLeads states l.waiting.list.items) (SomeLeads states c.close.new.waiting.list.items) c.in-Some.scalar rest
          (λ h. let yes = c.has_end.ensures.1 (end.0 h) in let no = c.if-has_end.false in cc)
          (read_again states it.start l.waiting c.read.new.next c.add.new.self c.close.new.waiting c.in-Some.scalar it.ended l.invariant.ready b a c.in_ok-close.ensures)
          text (subst (λ r. IsSearching (LeadsFrom states it.start) (SomeLeads states l.waiting.list.items) r text) cut l.invariant.searching));
    }

pub returns : goal.returns
returns c =
    let l = c.loop-scalar in
    let it = c.args.self.now in
    let states = it.states.items in
    let text : List ℕ = chars c.args.text.now in
    let t = YieldsList-end (YieldsList-from_chars c.args.text.now c.utf8.text cc) l.yielded _ l.yielded_by _ _ c.in-None.is c.next.ensures.steps in
    let none = nothing_left text (length l.yielded) t.1 in
    let end = ready_end states l.waiting it.ended l.invariant.ready in
    let last = subst (λ r. IsSearching (LeadsFrom states it.start) (SomeLeads states l.waiting.list.items) r text) none l.invariant.searching in (
      (λ h. search_found (LeadsFrom states it.start) (SomeLeads states l.waiting.list.items) [] text last (end.1 (c.has_end-2.ensures.0 h))),
      (λ o. c.has_end-2.ensures.1 (end.0 (search_end (LeadsFrom states it.start) (SomeLeads states l.waiting.list.items) text last o))),
    )
