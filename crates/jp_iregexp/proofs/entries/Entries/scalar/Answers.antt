use Rattle.std.proofs.Common.{◌≡◌, ◌∷◌, [], ◌++◌, IsTrue, length, subst}
use Rattle.jp_model.specs.Pattern.Classes.{in_class}
use Rattle.jp_model.specs.Pattern.Language.{IsOne}
use Rattle.jp_model.specs.Pattern.Tree.{CharClass}
use Rattle.jp_iregexp.specs.declared.graph.State.TheVariants.{Scalar}
use Rattle.jp_iregexp.specs.Graphs.{AddsEntry}
use Rattle.jp_iregexp.proofs.Entering.{entry_scalar}
use Rattle.jp_iregexp.proofs.Parts.{if_ok_map}
use Rattle.jp_iregexp.proofs.entries.Entries.scalar.Goals as goal

pub returns : goal.returns
returns c =
    let old = c.args.self.now.states.items in
    let new = c.push.new.self.states.items in
    let class = c.in_ok-class.class in
    let next = c.args.next in
    if_ok_map (λ number. (number ≡ length old) × (new ≡ old ++ Scalar class next ∷ [])) (λ entry. AddsEntry old new _ next entry) c.push.result
    (λ k h. subst (λ (d : CharClass). AddsEntry old new (IsOne (λ s. IsTrue (in_class d s))) next k) c.in_ok-class.ensures (entry_scalar old new class next k h.0 h.1)) c.push.ensures
