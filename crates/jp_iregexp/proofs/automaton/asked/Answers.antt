use Rattle.std.proofs.Common.{rules, ◌≡◌, ◌<◌, ◌≤◌, IsTrue, length, get_or, refl, sym, ◌∙◌, subst}
use Rattle.jp_model.specs.Pattern.Classes.{in_class}
use Rattle.jp_iregexp.specs.States.{State}
use Rattle.jp_iregexp.specs.Layouts.{state_of}
use Rattle.jp_iregexp.proofs.Sums.{some_same}
use Rattle.jp_iregexp.proofs.Layouts.{state_here, no_state}
use Rattle.jp_iregexp.proofs.automaton.asked.Goals as goal

pub returns-in_default-clause-none : goal.returns-in_default-clause-none
returns-in_default-clause-none c none behind p =
    let past : length c.args.states.now ≤ c.args.number = search rules in
    no_state c.args.states.now c.args.number p.state past p.is

pub returns-then-contains-clause-some : goal.returns-then-contains-clause-some
returns-then-contains-clause-some c =
    let inside : c.args.number < length c.args.states.now = search rules in
    let is : c.in-Some.state.now ≡ get_or c.args.states.now c.args.number c.in-Some.state.now = search rules in
    record { state = state_of c.in-Some.state.now; is = state_here c.args.states.now c.args.number c.in-Some.state.now inside is; has = search rules; gives = refl }

pub returns-else-contains-clause-none : goal.returns-else-contains-clause-none
returns-else-contains-clause-none c none behind p =
    let inside : c.args.number < length c.args.states.now = search rules in
    let is : c.in-Some.state.now ≡ get_or c.args.states.now c.args.number c.in-Some.state.now = search rules in
    let same : p.state ≡ state_of c.in-Some.state.now = some_same (sym p.is ∙ state_here c.args.states.now c.args.number c.in-Some.state.now inside is) in
    let has : IsTrue (in_class (state_of c.in-Some.state.now).class c.args.scalar) = subst (λ (w : State). IsTrue (in_class w.class c.args.scalar)) same p.has in
    search (rules, has)
