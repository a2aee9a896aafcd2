-- The first node is at its own place, and any other below that of its parent.
use Rattle.std.proofs.Common.{◌≡◌, ◌∙◌, ◌<◌, ℕ, IfOk, OnOk, ap, arith, get_or, inl, length, refl, subst, sym}
use Rattle.std.proofs.lemmas.Grind.{common_steps}
use Rattle.jp_nodes.specs.Cursors.{node_of}
use Rattle.jp_survey.specs.Foldings.{folded_by, longer}
use Rattle.jp_survey.specs.Justified.{WithPath}
use Rattle.jp_survey.specs.Paths.{Path, strides_of}
use Rattle.jp_survey.specs.Places.{path_at}
use Rattle.jp_survey.specs.Trees.{IsPlaceAt, links_of, stride_to, tree_folds, tree_paths}
use Rattle.jp_survey.proofs.Trees.{child_below, parent_known, stays}
use Rattle.jp_survey.proofs.tree.Tree.place_of.Goals as goal

pub returns-then-place-first-clause-grows : goal.returns-then-place-first-clause-grows
returns-then-place-first-clause-grows c = stays c.args.self.now c.args.self.now refl refl refl refl refl refl

pub returns-then-place-first-clause-place : goal.returns-then-place-first-clause-place
returns-then-place-first-clause-place c = c.requires.top (sym c.place.ensures.value ∙ c.if-place-first.true)

pub returns-then-place-first-clause-path : goal.returns-then-place-first-clause-path
returns-then-place-first-clause-path c = inl refl

pub next_place-requires-clause-parent : goal.next_place-requires-clause-parent
next_place-requires-clause-parent c =
    let old = c.args.self.now in let number = c.in_ok-number.number in let parent = c.in-Some.parent in let own = c.place-2.ensures in let above = c.in-Some.ensures in
    let known = parent_known old c.args.node parent c.args.first number c.place-2.result c.requires.known above.line above.place own.value own.node (grind (arith, common_steps)) in
    let is : c.in_ok-above.field-0.now ≡ get_or old.places.items number 0 = grind (arith, common_steps) in
    subst (λ (n : ℕ). n < length (links_of old)) (sym is) known.1.0

pub returns : goal.returns
returns c =
    let old = c.args.self.now in let new = c.next_place.new.self in let parent = c.in-Some.parent in let node = c.args.node in let folds = tree_folds old in
    let number = c.in_ok-number.number in let own = c.place-2.ensures in let up = c.in-Some.ensures in
    let known = parent_known old node parent c.args.first number c.place-2.result c.requires.known up.line up.place own.value own.node (grind (arith, common_steps)) in
    let is : c.in_ok-above.field-0.now ≡ get_or old.places.items number 0 = grind (arith, common_steps) in
    let path : longer folds (path_at (tree_paths old) c.in_ok-above.field-0.now) (stride_to node) ≡ folded_by folds (strides_of (node_of node).location) =
    ap (λ (n : ℕ). longer folds (path_at (tree_paths old) n) (stride_to node)) is ∙ (ap (λ (p : Path). longer folds p (stride_to node)) known.1.1 ∙ child_below folds node parent up.location) in
    record {
      tree = c.next_place.ensures.tree;
      grows = c.next_place.ensures.grows;
      place = subst (λ (p : Path). IfOk c.next_place.result (λ place. IsPlaceAt new place p)) path c.next_place.ensures.place;
      path = subst (λ (p : Path). OnOk c.next_place.result (WithPath (tree_paths old) p (tree_paths new))) path c.next_place.ensures.path;
    }
