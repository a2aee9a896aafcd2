-- A tree counts the nodes of a text.
use Rattle.std.proofs.Common.{◌≡◌, ◌∙◌, ℕ, ◌<◌, List, [], ◌∷◌, ◌++◌, length, replicate, ap, sym, subst, arith}
use Rattle.jp_survey.specs.Counts.{CountedBeside, no_counts, with_node}
use Rattle.jp_survey.specs.Foldings.{folded_by}
use Rattle.jp_survey.specs.Paths.{Line, Mark, Path}
use Rattle.jp_survey.specs.Places.{path_at}
use Rattle.jp_survey.specs.Trees.{AreCountedBeside, Grows, IsPlaceAt, IsTree, links_of, names_of, tree_folds, tree_paths}
use Rattle.jp_survey.specs.declared.count.PlaceCounts.{PlaceCounts}
use Rattle.jp_survey.specs.declared.tree.Tree.{Tree}
use Rattle.jp_survey.proofs.Beside.{more_counted, one_counted}
use Rattle.jp_survey.proofs.Places.{many_paths}

long_paths : (tree : Tree) → IsTree tree → length (tree_paths tree) ≡ length tree.counts.places.items
long_paths tree h = many_paths (names_of tree) (links_of tree) h.places ∙ sym h.counted

once_paths : (tree : Tree) → IsTree tree → (j k : ℕ) → j < length (tree_paths tree) → k < length (tree_paths tree) → path_at (tree_paths tree) j ≡ path_at (tree_paths tree) k → j ≡ k
once_paths tree h j k s t e = let many = many_paths (names_of tree) (links_of tree) h.places in h.places.distinct_paths j k (omega (arith, many, s)) (omega (arith, many, t)) e

-- more places change nothing
pub counted_more : (old mid : Tree) → IsTree old → IsTree mid → Grows old mid → (lines : List Line) (line : ℕ) (marks : List Mark) → 0 < line → AreCountedBeside lines line marks old → AreCountedBeside lines line marks mid
counted_more old mid tree now g lines line marks some h =
    let shown = folded_by (tree_folds old) in
    let all : length (tree_paths old ++ g.more) ≡ length (old.counts.places.items ++ replicate g.added no_counts) =
    sym (ap length g.paths) ∙ (long_paths mid now ∙ ap length g.counts) in
    let more = more_counted shown lines line marks (tree_paths old) old.counts.places.items h (long_paths old tree) g.more g.added some all
    (subst (λ (ps : List Path). (j k : ℕ) → j < length ps → k < length ps → path_at ps j ≡ path_at ps k → j ≡ k) g.paths (once_paths mid now)) in
    subst (λ (f : List Path). CountedBeside (folded_by f) lines line marks (tree_paths mid) mid.counts.places.items) (sym g.folds)
    (subst (λ (ps : List Path). CountedBeside shown lines line marks ps mid.counts.places.items) (sym g.paths)
    (subst (λ (cs : List PlaceCounts). CountedBeside shown lines line marks (tree_paths old ++ g.more) cs) (sym g.counts) more))

-- a node is counted at the place of its path
pub counted_one : (mid : Tree) → IsTree mid → (lines : List Line) (line : ℕ) (marks : List Mark) → AreCountedBeside lines line marks mid
    → (mark : Mark) (place : ℕ) → IsPlaceAt mid place (folded_by (tree_folds mid) mark.path)
    → CountedBeside (folded_by (tree_folds mid)) lines line (marks ++ mark ∷ []) (tree_paths mid) (with_node mid.counts.places.items place mark.kind line)
counted_one mid now lines line marks h mark place at =
    let many = many_paths (names_of mid) (links_of mid) now.places in
    one_counted (folded_by (tree_folds mid)) lines line marks (tree_paths mid) mid.counts.places.items h (long_paths mid now) (once_paths mid now) mark place (omega (arith, many, at.0)) at.1
