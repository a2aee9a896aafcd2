-- The root is at the first place, and any other node below that of its parent.
use Rattle.std.proofs.Common.{◌∙◌, ◌∷◌, IfOk, ap, refl, subst, sym}
use Rattle.std.proofs.lemmas.Result.{on_ok_weaker}
use Rattle.jp_model.specs.Meaning.Nodes.{Node}
use Rattle.jp_survey.specs.Foldings.{folded_by}
use Rattle.jp_survey.specs.Paths.{Path, strides_of}
use Rattle.jp_survey.specs.Trees.{IsPlaceAt, links_of, names_of, stride_to, tree_folds}
use Rattle.jp_survey.proofs.Places.{path_of_root}
use Rattle.jp_survey.proofs.Trees.{grows_on, stays}
use Rattle.jp_survey.proofs.Walks.{found_above, justified_below, path_is}
use Rattle.jp_survey.proofs.tree.Tree.+node_place.Goals as goal

pub returns-in_default-clause-grows : goal.returns-in_default-clause-grows
returns-in_default-clause-grows t c = stays c.args.self.now c.args.self.now refl refl refl refl refl refl

pub returns-in_default-clause-place : goal.returns-in_default-clause-place
returns-in_default-clause-place t c =
    let self = c.args.self.now in let tree = c.requires in (
      tree.places.some,
      path_of_root (names_of self) (links_of self) tree.places ∙ sym (ap (λ (n : Node). folded_by (tree_folds self) (strides_of n.location)) c.in_default.ensures.root),
    )

pub returns-in_default-clause-justified : goal.returns-in_default-clause-justified
returns-in_default-clause-justified t c fold seen rest there h = h

pub returns-clause-grows : goal.returns-clause-grows
returns-clause-grows t c =
    let old = c.args.self.now in let mid = c.node_place.new.self in let new = c.next_place.new.self in
    on_ok_weaker c.next_place.result (λ more. grows_on old mid new c.in_ok-above.ensures.grows more) c.next_place.ensures.grows

pub returns-clause-place : goal.returns-clause-place
returns-clause-place t c =
    let old = c.args.self.now in let mid = c.node_place.new.self in let new = c.next_place.new.self in let ok = c.in_ok-above.ensures in
    subst (λ (p : Path). IfOk c.next_place.result (λ place. IsPlaceAt new place p)) (path_is old mid c.args.node c.in-Some.parent c.in_ok-above.above c.in-Some.ensures.location ok.grows ok.place)
    c.next_place.ensures.place

pub returns-clause-justified : goal.returns-clause-justified
returns-clause-justified t c fold seen rest there h =
    let old = c.args.self.now in let mid = c.node_place.new.self in let new = c.next_place.new.self in let ok = c.in_ok-above.ensures in
    let node = c.args.node in let parent = c.in-Some.parent in let above = c.in_ok-above.above in let is = c.in-Some.ensures.location in
    justified_below old mid node parent above is ok.grows ok.place fold seen rest there c.next_place.result new c.next_place.ensures.grows c.next_place.ensures.path
    (ok.justified fold seen (stride_to node ∷ rest) (found_above old mid node parent above is ok.grows ok.place fold seen rest there) h)
