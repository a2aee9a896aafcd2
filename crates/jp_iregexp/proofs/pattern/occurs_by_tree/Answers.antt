use Rattle.std.proofs.Common.{◌≡◌, ◌↔◌, ℕ, List, IsTrue, true, ◌∙◌, ap}
use Rattle.jp_model.specs.Pattern.Language.{Language, Occurs}
use Rattle.jp_model.specs.Pattern.Membership.{occurs_in}
use Rattle.jp_model.proofs.Pattern.Occurrences.{occurrence_decided}
use Rattle.jp_iregexp.specs.Nodes.{tree_of}
use mathlib.Core.Bool.{Bool-set}
use Rattle.std.proofs.Math.Logic.{∥∥₁_elim}
use Rattle.std.specs.Str.{chars}
use Rattle.jp_iregexp.specs.declared.graph.Graph.{Graph}
use Rattle.jp_iregexp.specs.Graphs.{LeadsFrom, Spells}
use Rattle.jp_iregexp.proofs.Answering.{answers_search}
use Rattle.jp_iregexp.proofs.Layouts.{some_of}
use Rattle.jp_iregexp.proofs.Parts.{if_ok_map}
use Rattle.jp_iregexp.proofs.Asked.{some_sound, some_complete, same_test}
use Rattle.jp_iregexp.proofs.pattern.occurs_by_tree.Goals as goal

pub returns : goal.returns
returns c =
    let pattern = tree_of c.args.compiled.now.root in
    let member = Language pattern in
    let text = c.as_slice-scalars.result.now in
    let starts = c.in_ok-starts.starts in
    let ends = c.in_ok-reached.reached in
    let found : (c.has_any.result ≡ true) ↔ Occurs member text = (
      λ h. (let s = c.has_any.ensures.some h in some_sound member text starts ends s.0 c.in_ok-reached.ensures s.1),
      λ o. (let e = some_complete member text starts ends c.in_ok-starts.ensures.each c.in_ok-reached.ensures o in c.has_any.ensures.none e.position e.has),
    ) in
    same_test c.has_any.result (occurs_in pattern text) (Occurs member text) found (occurrence_decided pattern text) ∙ ap (λ (x : List ℕ). occurs_in pattern x) (c.as_slice-scalars.ensures.value ∙ c.in_ok-scalars.ensures)

pub returns-in-Some : goal.returns-in-Some
returns-in-Some c =
    let g = c.in-Some.graph in
    let tree = tree_of c.args.compiled.now.root in
    let text = chars c.args.text.now in
    if_ok_map (λ answer. IsTrue answer ↔ Occurs (LeadsFrom g.states.items g.start) (chars c.args.text.now)) (λ answer. answer ≡ occurs_in tree text) c.finds.result
    (λ answer h. ∥∥₁_elim c.args.compiled.now.led (Bool-set _ _)
    (λ all. answers_search (LeadsFrom g.states.items g.start) tree text answer (some_of (λ (x : Graph). Spells x.states.items x.start tree) c.args.compiled.now.graph g c.in-Some.is all) h)) c.finds.ensures
