-- A link that leads from the place above to the node is that of its place.
use Rattle.std.proofs.Common.{◌∙◌, ℕ, List, ap, subst, sym}
use Rattle.std.specs.Prelude.{chars}
use Rattle.jp_model.specs.Characters.{text_equal}
use Rattle.jp_strings.specs.Points.{points_of}
use Rattle.jp_survey.specs.Foldings.{longer}
use Rattle.jp_survey.specs.Paths.{Stride}
use Rattle.jp_survey.specs.Places.{path_at}
use Rattle.jp_survey.specs.Trees.{IsPlaceAt, tree_folds, tree_paths}
use Rattle.jp_survey.proofs.Guesses.{guessed_element, guessed_member, guessed_others, name_is, to_element, to_member}
use Rattle.jp_survey.proofs.tree.Tree.is_place.Goals as goal

pub returns-in-Some-get_index : goal.returns-in-Some-get_index
returns-in-Some-get_index c = λ yes.
    let tree = c.args.self.now in let body = c.in-Member-Some.body in
    subst (λ (s : Stride). IsPlaceAt tree c.args.guess (longer (tree_folds tree) (path_at (tree_paths tree) c.args.parent) s))
    (sym (to_member c.args.child c.name.result c.name.ensures.points body c.in-Member-Some.is-1))
    (guessed_member tree c.requires c.args.guess c.args.parent c.in-Some.link.now (sym c.in-Some.ensures.key) c.if-link-parent.false c.in-Member-Some.number c.in-Member-Some.is-0 (points_of body.now)
    (name_is tree.names.keys c.in-Member-Some.number c.in-Some-get_index.name.now (points_of body.now) (sym c.in-Some-get_index.ensures.key)
    (ap (λ (b : List ℕ). text_equal (chars b) (points_of body.now)) (sym c.as_str.ensures.value) ∙ (sym c.spells.ensures ∙ yes))))

pub returns-in-Element-None : goal.returns-in-Element-None
returns-in-Element-None c = λ yes.
    let tree = c.args.self.now in
    subst (λ (s : Stride). IsPlaceAt tree c.args.guess (longer (tree_folds tree) (path_at (tree_paths tree) c.args.parent) s))
    (sym (to_element c.args.child c.name.result c.name.ensures.points c.in-Element-None.is-1))
    (guessed_element tree c.requires c.args.guess c.args.parent c.in-Some.link.now (sym c.in-Some.ensures.key) c.if-link-parent.false c.in-Element-None.is-0)

pub returns-in-Element-None-2 : goal.returns-in-Element-None-2
returns-in-Element-None-2 c = λ yes.
    let tree = c.args.self.now in let body = c.in-Element-None.field-0-1 in
    subst (λ (s : Stride). IsPlaceAt tree c.args.guess (longer (tree_folds tree) (path_at (tree_paths tree) c.args.parent) s))
    (sym (to_member c.args.child c.name.result c.name.ensures.points body c.in-Element-None.is-1))
    (guessed_others tree c.requires c.args.guess c.args.parent c.in-Some.link.now (sym c.in-Some.ensures.key) c.if-link-parent.false c.in-Element-None.is-0 (points_of body.now))
