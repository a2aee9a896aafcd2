-- A member has its name, and an element has none.
use Rattle.std.proofs.Common.{IfOk, OnOk, refl, subst, sym}
use Rattle.jp_survey.specs.Foldings.{longer}
use Rattle.jp_survey.specs.Justified.{WithPath}
use Rattle.jp_survey.specs.Paths.{Stride}
use Rattle.jp_survey.specs.Places.{path_at}
use Rattle.jp_survey.specs.Trees.{IsPlaceAt, tree_folds, tree_paths}
use Rattle.jp_survey.proofs.Guesses.{to_element, to_member}
use Rattle.jp_survey.proofs.tree.Tree.child_place.Goals as goal

pub returns-in-Some-clause-place : goal.returns-in-Some-clause-place
returns-in-Some-clause-place c =
    let old = c.args.self.now in
    subst (λ (s : Stride). IfOk c.member_place.result (λ place. IsPlaceAt c.member_place.new.self place (longer (tree_folds old) (path_at (tree_paths old) c.args.parent) s)))
    (sym (to_member c.args.child c.name.result c.name.ensures.points c.in-Some.body c.in-Some.is)) c.member_place.ensures.place

pub returns-in-Some-clause-path : goal.returns-in-Some-clause-path
returns-in-Some-clause-path c =
    let old = c.args.self.now in
    subst (λ (s : Stride). OnOk c.member_place.result (WithPath (tree_paths old) (longer (tree_folds old) (path_at (tree_paths old) c.args.parent) s) (tree_paths c.member_place.new.self)))
    (sym (to_member c.args.child c.name.result c.name.ensures.points c.in-Some.body c.in-Some.is)) c.member_place.ensures.path

pub add-requires-clause-leads : goal.add-requires-clause-leads
add-requires-clause-leads c = record { within = c.requires.parent; known = tt; told = (refl, refl); apart = λ named. absurd (cc) }

pub returns-in-None-clause-place : goal.returns-in-None-clause-place
returns-in-None-clause-place c =
    let old = c.args.self.now in
    subst (λ (s : Stride). IfOk c.add.result (λ place. IsPlaceAt c.add.new.self place (longer (tree_folds old) (path_at (tree_paths old) c.args.parent) s)))
    (sym (to_element c.args.child c.name.result c.name.ensures.points c.in-None.is)) c.add.ensures.place

pub returns-in-None-clause-path : goal.returns-in-None-clause-path
returns-in-None-clause-path c =
    let old = c.args.self.now in
    subst (λ (s : Stride). OnOk c.add.result (WithPath (tree_paths old) (longer (tree_folds old) (path_at (tree_paths old) c.args.parent) s) (tree_paths c.add.new.self)))
    (sym (to_element c.args.child c.name.result c.name.ensures.points c.in-None.is)) c.add.ensures.path
