-- The tree of the paths of nodes.
use Rattle.std.specs.Prelude.{◌≡◌, ℕ, ◌+◌, ◌<◌, List, ◌++◌, length, replicate, slice_get, slice_index_or, Some, true, false}
use Rattle.jp_nodes.specs.Cursors.{index_of, name_of}
use Rattle.jp_nodes.specs.declared.cursor.Cursor.{Cursor}
use Rattle.jp_model.specs.Meaning.Nodes.{Node, step_to}
use Rattle.jp_survey.specs.Counts.{Counted, CountedBeside, no_counts}
use Rattle.jp_survey.specs.Foldings.{folded_by}
use Rattle.jp_survey.specs.Paths.{Line, Mark, Path, Stride, stride_of, strides_of}
use Rattle.jp_survey.specs.Places.{AreApart, AreLinked, ArePlaces, IsKnown, folds_of, has_path, is_named, is_rest, is_start, names_in, path_at, paths_of}
use Rattle.jp_survey.specs.Surveys.{shown_by}
use Rattle.jp_survey.specs.declared.folding.Folded.{Folded}
use Rattle.jp_survey.specs.declared.links.Link.{Link}
use Rattle.jp_survey.specs.declared.links.Step.{Step}
use Rattle.jp_survey.specs.declared.tree.Tree.{Tree}

-- the names in a tree, its links, and the paths of its places
abbrev pub names_of : Tree → List (List ℕ)
names_of tree = names_in tree.names.keys

abbrev pub links_of : Tree → List Link
links_of tree = tree.links.links.keys

abbrev pub tree_paths : Tree → List Path
tree_paths tree = paths_of (names_of tree) (links_of tree)

-- the paths of the objects that it folds
abbrev pub tree_folds : Tree → List Path
tree_folds tree = folds_of (names_of tree) (links_of tree)

-- its places with their counts
abbrev pub folded_of : Tree → Folded
folded_of tree = record { links = tree.links; counts = tree.counts }

-- Its places have different paths, no member of an object that is folded is told from the others, and each place has its counts.
pub record IsTree (tree : Tree) : Type 0 where
  pub places : ArePlaces (names_of tree) (links_of tree)
  pub apart : AreApart (names_of tree) (links_of tree)
  pub counted : length tree.counts.places.items ≡ length (links_of tree)
  pub linked : AreLinked tree.links

-- A tree has become another: it has some more places, at which no node is counted, and folds the same objects.
pub record Grows (old new : Tree) : Type 0 where
  pub more : List Path
  pub added : ℕ
  pub paths : tree_paths new ≡ tree_paths old ++ more
  pub folds : tree_folds new ≡ tree_folds old
  pub counts : new.counts.places.items ≡ old.counts.places.items ++ replicate added no_counts
  pub places : new.places ≡ old.places
  pub lines : new.lines ≡ old.lines
  pub fold : new.fold ≡ old.fold

-- A place has a path.
abbrev pub IsPlaceAt : Tree → ℕ → Path → Type 0
IsPlaceAt tree place path = (place < length (links_of tree)) × (path_at (tree_paths tree) place ≡ path)

-- the stride to a node from its parent
abbrev pub stride_to : Cursor → Stride
stride_to node = stride_of (step_to (index_of node) (name_of node))

-- A step leads from a place of a tree to another, which may be new.
pub record Leads (tree : Tree) (parent : ℕ) (step : Step) : Type 0 where
  pub within : parent < length (links_of tree)
  pub known : IsKnown (names_of tree) step
  pub told : (is_start step ≡ false) × (is_rest step ≡ false)
  pub apart : is_named step ≡ true → has_path (tree_folds tree) (path_at (tree_paths tree) parent) ≡ false

-- The places of some nodes of a line are known, from the number `first` on and before `n`: each has the path of its node.
abbrev pub AreKnown : Tree → List Node → (first n : ℕ) → Type 0
AreKnown tree nodes first n = (k : ℕ) (node : Node) → first + k < n → slice_get nodes (first + k) ≡ Some node
    → (k < length tree.places.items) × IsPlaceAt tree (slice_index_or tree.places.items k 0) (folded_by (tree_folds tree) (strides_of node.location))

-- A tree has counted the nodes of lines, each at the place of its path.
abbrev pub AreCounted : List Line → Tree → Type 0
AreCounted lines tree = Counted (folded_by (tree_folds tree)) lines tree.lines (tree_paths tree) tree.counts.places.items

-- The same, and some nodes of one more line.
abbrev pub AreCountedBeside : List Line → (line : ℕ) → List Mark → Tree → Type 0
AreCountedBeside lines line marks tree = CountedBeside (folded_by (tree_folds tree)) lines line marks (tree_paths tree) tree.counts.places.items

-- Places have counted the nodes of lines, each at the place of its path as a survey shows it.
pub record HasCounted (fold : ℕ) (names : List (List ℕ)) (lines : List Line) (folded : Folded) : Type 0 where
  pub places : ArePlaces names folded.links.links.keys
  pub newest : ℕ
  pub counted : Counted (shown_by fold lines) lines newest (paths_of names folded.links.links.keys) folded.counts.places.items
