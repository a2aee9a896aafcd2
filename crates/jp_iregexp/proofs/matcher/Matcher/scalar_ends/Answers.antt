use Rattle.std.proofs.Common.{◌≡◌, ◌-◌, ◌≤◌, ◌↔◌, ℕ, IsTrue, rules, sym, ◌∙◌}
use Rattle.std.proofs.lemmas.Bool.{eqb-true}
use Rattle.jp_model.specs.Pattern.Classes.{in_class}
use Rattle.jp_model.specs.Pattern.Language.{IsOne}
use Rattle.jp_iregexp.specs.declared.positions.PositionSet.{PositionSet}
use Rattle.jp_iregexp.specs.Nodes.{class_of}
use Rattle.jp_iregexp.specs.Positions.{Has, AreEnds}
use Rattle.jp_iregexp.proofs.Alone.{alone_ends}
use Rattle.jp_iregexp.proofs.Parts.{if_ok_map}
use Rattle.jp_iregexp.proofs.matcher.Matcher.scalar_ends.Goals as goal

pub returns-in-Some-get-clause-ends : goal.returns-in-Some-get-clause-ends
returns-in-Some-get-clause-ends c =
    let text = c.args.self.now.text.now in
    let starts = c.args.starts.now in
    let P = λ (s : ℕ). IsTrue (in_class (class_of c.args.class.now) s) in
    let scalar = c.in-Some.scalar in
    let after = c.in-Some-get.after.now in
    let is = c.in-Some.ensures.scalar in
    let are = c.in_ok-look_for.ensures.after scalar after c.in-Some-get.ensures in
    let only : (s : ℕ) → P s → s ≡ scalar = λ s h. eqb-true s scalar (sym (is s) ∙ h) in
    if_ok_map (λ (out : PositionSet). (q : ℕ) → Has out q ↔ (1 ≤ q × Has starts (q - 1) × Has after q)) (λ (out : PositionSet). AreEnds (IsOne P) text starts out) c.moved_within.result
    (λ out moved. alone_ends P scalar only (is scalar ∙ search rules) text starts after out are moved) c.moved_within.ensures
