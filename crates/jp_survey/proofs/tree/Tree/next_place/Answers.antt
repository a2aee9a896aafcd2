-- The place that is guessed, or that which is looked for.
use Rattle.std.proofs.Common.{inl, refl}
use Rattle.jp_survey.proofs.Trees.{grows_on, stays, stays_tree}
use Rattle.jp_survey.proofs.tree.Tree.next_place.Goals as goal

pub returns-in-Some-clause-grows : goal.returns-in-Some-clause-grows
returns-in-Some-clause-grows c = stays c.args.self.now _ refl refl refl refl refl refl

pub returns-in-Some-clause-path : goal.returns-in-Some-clause-path
returns-in-Some-clause-path c = inl refl

pub returns-clause-tree : goal.returns-clause-tree
returns-clause-tree c = stays_tree c.child_place.new.self _ refl refl refl c.in_ok-place.ensures.tree

pub returns-clause-grows : goal.returns-clause-grows
returns-clause-grows c = grows_on c.args.self.now c.child_place.new.self _ c.in_ok-place.ensures.grows (stays c.child_place.new.self _ refl refl refl refl refl refl)

pub returns-clause-place : goal.returns-clause-place
returns-clause-place c = c.in_ok-place.ensures.place

pub returns-clause-path : goal.returns-clause-path
returns-clause-path c = c.in_ok-place.ensures.path
