-- A member of an object that is folded is with all others, and any other at the place of its name.
use Rattle.std.proofs.Common.{ℕ, List, IfOk, OnOk, inl, refl, subst}
use Rattle.jp_strings.specs.Points.{points_of}
use Rattle.jp_survey.specs.Foldings.{longer}
use Rattle.jp_survey.specs.Justified.{WithPath}
use Rattle.jp_survey.specs.Paths.{member}
use Rattle.jp_survey.specs.Places.{path_at}
use Rattle.jp_survey.specs.Trees.{IsPlaceAt, tree_folds, tree_paths}
use Rattle.jp_survey.proofs.Trees.{stays}
use Rattle.jp_survey.proofs.tree.Tree.member_place.Goals as goal

pub returns-in-Some-clause-grows : goal.returns-in-Some-clause-grows
returns-in-Some-clause-grows c = stays c.args.self.now _ refl refl refl refl refl refl

pub returns-in-Some-clause-place : goal.returns-in-Some-clause-place
returns-in-Some-clause-place c = c.in-Some.ensures.place (points_of c.args.body.now)

pub returns-in-Some-clause-path : goal.returns-in-Some-clause-path
returns-in-Some-clause-path c = inl refl

pub add_member-requires-clause-plain : goal.add_member-requires-clause-plain
add_member-requires-clause-plain c = c.others_place.ensures.plain c.in_default.is c.requires.parent

pub returns : goal.returns
returns c =
    let old = c.args.self.now in let new = c.add_member.new.self in let parent = c.args.parent in
    record {
      tree = c.add_member.ensures.tree;
      grows = c.add_member.ensures.grows;
      place = subst (λ (x : List ℕ). IfOk c.add_member.result (λ place. IsPlaceAt new place (longer (tree_folds old) (path_at (tree_paths old) parent) (member x)))) c.in_ok-name.ensures c.add_member.ensures.place;
      path = subst (λ (x : List ℕ). OnOk c.add_member.result (WithPath (tree_paths old) (longer (tree_folds old) (path_at (tree_paths old) parent) (member x)) (tree_paths new))) c.in_ok-name.ensures c.add_member.ensures.path;
    }
