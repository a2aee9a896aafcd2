use Rattle.std.proofs.Common.{◌+◌, ◌≤◌, ℕ, length, map, arith, rules, sym, ◌∙◌, ap}
use Rattle.std.proofs.lemmas.List.{length_push}
use Rattle.jp_model.specs.Pattern.Classes.{in_class}
use Rattle.jp_iregexp.specs.Layouts.{state_of}
use Rattle.jp_iregexp.specs.States.{waits_for}
use Rattle.jp_iregexp.proofs.Layouts.{length_mapped}
use Rattle.jp_iregexp.proofs.Masks.{waits_at, set_more}
use Rattle.jp_iregexp.proofs.AsciiSets.{same_codes}
use Rattle.jp_iregexp.proofs.automaton.ascii_sets.Goals as goal

pub loop-state-preserved : goal.loop-state-preserved
loop-state-preserved c =
    let l = c.loop-state in
    let ps = c.args.states.now in
    let states = map state_of ps in
    let same = λ (s : ℕ). waits_at ps l.state-index s c.state-item.result c.loop-state-test.true c.state-item.is in
    record {
      size = ap length c.in_ok-push.ensures.items ∙ length_push l.sets.items c.codes_of.result ∙ ap (λ n. n + 1) l.invariant.size;
      each = set_more states l.sets.items c.push.new.self.items c.codes_of.result l.state-index c.in_ok-push.ensures.items (sym l.invariant.size)
          (same_codes (in_class (state_of c.state-item.result).class) (waits_for states l.state-index) c.codes_of.result (λ s. ((λ h. same s ∙ h), (λ h. sym (same s) ∙ h))) c.codes_of.ensures) l.invariant.each;
    }

pub returns : goal.returns
returns c =
    let l = c.loop-state in
    let ps = c.args.states.now in
    let all : length ps ≤ l.state-index = search rules in
    record { size = l.invariant.size ∙ omega (arith, all, l.auto.state-index-end) ∙ sym (length_mapped state_of ps); each = l.invariant.each }
