-- The places of the nodes of a line, from its root down.
use Rattle.std.proofs.Common.{◌≡◌, ◌∙◌, ◌||◌, ℕ, List, [], ◌∷◌, ◌++◌, OnOk, false, true, ap, ap₂, sym, subst, arith, append-nil, append_assoc}
use Rattle.std.specs.Prelude.{Err, Ok, Result}
use Rattle.std.proofs.lemmas.Bool.{or_left, or_right}
use Rattle.std.proofs.lemmas.List.{map-append}
use Rattle.std.proofs.lemmas.List.Folds.{list_any-append}
use Rattle.jp_model.specs.Meaning.Nodes.{step_to}
use Rattle.jp_model.specs.Steps.{Step}
use Rattle.jp_nodes.specs.Cursors.{index_of, name_of, node_of}
use Rattle.jp_nodes.specs.declared.cursor.Cursor.{Cursor}
use Rattle.jp_survey.specs.Counts.{CountedBeside}
use Rattle.jp_survey.specs.Foldings.{folded_by, longer}
use Rattle.jp_survey.specs.Justified.{IsJustified, WithPath}
use Rattle.jp_survey.specs.Paths.{Line, Path, marks_of, path_equal, stride_of, strides_of}
use Rattle.jp_survey.specs.Places.{has_path, path_at}
use Rattle.jp_survey.specs.Seen.{HasBegun, HasCome, paths_beside}
use Rattle.jp_survey.specs.Trees.{Grows, IsPlaceAt, IsTree, stride_to, tree_folds, tree_paths}
use Rattle.jp_survey.specs.declared.tree.Tree.{Tree}
use Rattle.jp_survey.proofs.Counting.{counted_more}
use Rattle.jp_survey.proofs.Equalities.{path_itself}
use Rattle.jp_survey.proofs.Justified.{justified_seen, justified_step}
use Rattle.jp_survey.proofs.Trees.{child_below}

-- a place is found below that of the parent
module _ (old mid : Tree) (node parent : Cursor) (above : ℕ) (is : (node_of node).location ≡ (node_of parent).location ++ step_to (index_of node) (name_of node) ∷ [])
    (grows : Grows old mid) (there : IsPlaceAt mid above (folded_by (tree_folds old) (strides_of (node_of parent).location))) where
  -- its path is that of the node
  pub path_is : longer (tree_folds mid) (path_at (tree_paths mid) above) (stride_to node) ≡ folded_by (tree_folds old) (strides_of (node_of node).location)
  path_is = ap₂ (λ (f : List Path) (p : Path). longer f p (stride_to node)) grows.folds there.1 ∙ child_below (tree_folds old) node parent is

  -- a path through the node goes through its parent
  through : (rest : Path) → strides_of (node_of node).location ++ rest ≡ strides_of (node_of parent).location ++ stride_to node ∷ rest
  through rest =
      ap (λ (p : Path). p ++ rest) (ap strides_of is ∙ map-append stride_of (node_of parent).location (step_to (index_of node) (name_of node) ∷ []))
      ∙ append_assoc (strides_of (node_of parent).location) (stride_to node ∷ []) rest

  module _ (limit : ℕ) (seen : List Path) (rest : Path) (found : has_path seen (strides_of (node_of node).location ++ rest) ≡ true) where
    pub found_above : has_path seen (strides_of (node_of parent).location ++ stride_to node ∷ rest) ≡ true
    found_above = ap (has_path seen) (sym (through rest)) ∙ found

    pub justified_below : {A E : Type 0} (r : Result A E) (new : Tree) → OnOk r (Grows mid new) → OnOk r (WithPath (tree_paths mid) (longer (tree_folds mid) (path_at (tree_paths mid) above) (stride_to node)) (tree_paths new))
        → IsJustified limit seen (tree_paths mid) (tree_folds mid) → OnOk r (IsJustified limit seen (tree_paths new) (tree_folds new))
    justified_below (Err e) new more with h = tt
    justified_below (Ok place) new more with h =
        subst (λ (f : List Path). IsJustified limit seen (tree_paths new) f) (sym more.folds)
        (justified_step limit seen (tree_paths mid) (tree_paths new) (tree_folds mid) (strides_of (node_of node).location) rest
        (subst (λ (p : Path). WithPath (tree_paths mid) p (tree_paths new)) (path_is ∙ ap (λ (f : List Path). folded_by f (strides_of (node_of node).location)) (sym grows.folds)) with) found h)

-- the place of a node is found
pub node_comes : (limit : ℕ) (lines : List Line) (line : Line) (location : List Step) (initial tree : Tree) → IsTree initial → IsTree tree → Grows initial tree
    → ((seen : List Path) → has_path seen (strides_of location ++ []) ≡ true → IsJustified limit seen (tree_paths initial) (tree_folds initial) → IsJustified limit seen (tree_paths tree) (tree_folds tree))
    → HasBegun limit lines line initial → HasCome limit lines line location tree
node_comes limit lines line location initial tree was now grows justified h =
    let seen = paths_beside lines (marks_of line) in let path = strides_of location in let some = h.some in let same = grows.lines in
    record {
      limit = grows.fold ∙ h.limit;
      some = omega (arith, some, same);
      counted = subst (λ (n : ℕ). CountedBeside (folded_by (tree_folds tree)) lines n (marks_of line) (tree_paths tree) tree.counts.places.items) (sym same)
          (counted_more initial tree was now grows lines initial.lines (marks_of line) h.some h.counted);
      justified = justified (seen ++ path ∷ [])
          (ap (has_path (seen ++ path ∷ [])) (append-nil path)
          ∙ (list_any-append (path_equal path) seen (path ∷ []) ∙ or_right (has_path seen path) (path_equal path path || false) (or_left (path_equal path path) false (path_itself path))))
          (justified_seen limit seen (path ∷ []) (tree_paths initial) (tree_folds initial) h.justified);
    }
