use Rattle.std.proofs.Common.{◌≡◌, ◌↔◌, ℕ, List, IsTrue, true, ◌∙◌, ap}
use Rattle.jp_model.specs.Pattern.Language.{Language}
use Rattle.jp_model.specs.Pattern.Membership.{is_in}
use Rattle.jp_model.proofs.Pattern.Decides.{decides}
use Rattle.jp_iregexp.specs.Nodes.{tree_of}
use mathlib.Core.Bool.{Bool-set}
use Rattle.std.proofs.Math.Logic.{∥∥₁_elim}
use Rattle.std.specs.Str.{chars}
use Rattle.jp_iregexp.specs.declared.graph.Graph.{Graph}
use Rattle.jp_iregexp.specs.Graphs.{LeadsFrom, Spells}
use Rattle.jp_iregexp.proofs.Answering.{answers_match}
use Rattle.jp_iregexp.proofs.Layouts.{some_of}
use Rattle.jp_iregexp.proofs.Parts.{if_ok_map}
use Rattle.jp_iregexp.proofs.Asked.{whole_sound, whole_complete, same_test}
use Rattle.jp_iregexp.proofs.pattern.matches_by_tree.Goals as goal

pub returns : goal.returns
returns c =
    let pattern = tree_of c.args.compiled.now.root in
    let member = Language pattern in
    let text = c.as_slice-scalars.result.now in
    let starts = c.in_ok-starts.starts in
    let ends = c.in_ok-reached.reached in
    let found : (c.contains.result ≡ true) ↔ member text = (
      λ h. whole_sound member text starts ends c.in_ok-starts.ensures.only c.in_ok-reached.ensures (c.contains.ensures.0 h),
      λ m. c.contains.ensures.1 (whole_complete member text starts ends c.in_ok-starts.ensures.has c.in_ok-reached.ensures m),
    ) in
    same_test c.contains.result (is_in pattern text) (member text) found (decides pattern text) ∙ ap (λ (x : List ℕ). is_in pattern x) (c.as_slice-scalars.ensures.value ∙ c.in_ok-scalars.ensures)

pub returns-in-Some : goal.returns-in-Some
returns-in-Some c =
    let g = c.in-Some.graph in
    let tree = tree_of c.args.compiled.now.root in
    let text = chars c.args.text.now in
    if_ok_map (λ answer. IsTrue answer ↔ LeadsFrom g.states.items g.start (chars c.args.text.now)) (λ answer. answer ≡ is_in tree text) c.accepts.result
    (λ answer h. ∥∥₁_elim c.args.compiled.now.led (Bool-set _ _)
    (λ all. answers_match (LeadsFrom g.states.items g.start) tree text answer (some_of (λ (x : Graph). Spells x.states.items x.start tree) c.args.compiled.now.graph g c.in-Some.is all) h)) c.accepts.ensures
