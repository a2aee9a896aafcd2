use Rattle.std.proofs.Common.{rules, ◌↔◌, ◌≤◌, ◌^◌, List, length, map, arith, sym, ◌∙◌, subst}
use Rattle.jp_model.specs.Pattern.Language.{Language}
use Rattle.jp_iregexp.specs.declared.automaton.State.{State as ProgramState}
use Rattle.jp_iregexp.specs.declared.layout.Part.{Part}
use Rattle.jp_iregexp.specs.States.{Leads}
use Rattle.jp_iregexp.specs.Layouts.{LaidOnto, state_of}
use Rattle.jp_iregexp.specs.Nodes.{tree_of}
use Rattle.jp_iregexp.proofs.Layouts.{some_of, length_mapped}
use Rattle.jp_iregexp.proofs.Leading.{whole}
use Rattle.jp_iregexp.proofs.layout.automaton_of.Goals as goal

pub returns : goal.returns
returns c =
    let laid = map state_of c.part.new.self.states.items in
    let states = map state_of c.link.new.self.states.items in
    let member = Language (tree_of c.args.root.now) in
    let all = c.in-Some.all in
    let a = some_of (λ (p : Part). LaidOnto (map state_of c.new.result.items) laid member p.first p.last p.has_empty) _ all c.in-Some.is c.in_ok-all.ensures in
    let items : length c.part.new.self.states.items ≤ 63 = search rules in
    let few : length states ≤ 63 = omega (arith, length_mapped state_of c.part.new.self.states.items, items, c.link.ensures.size) in
    let made = c.in_ok-automaton.ensures in
    let end = a.laid states (2 ^ 63) (λ p w from is. c.link.ensures.each p w is) in
    λ text. subst (λ (ps : List ProgramState). Leads (map state_of ps) c.in_ok-automaton.automaton.starts text ↔ member text) (sym made.states)
    (subst (λ n. Leads states n text ↔ member text) (sym (made.starts ∙ c.through-starts.ensures)) (whole states member all.first all.has_empty few end text))
