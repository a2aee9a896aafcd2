-- Trees that have seen lines, and fold objects since these have many names there.
use Rattle.std.specs.Prelude.{◌≡◌, ℕ, ◌<◌, List, [], ◌∷◌, ◌++◌, Option, None, Some, map}
use Rattle.jp_model.specs.Steps.{Step}
use Rattle.jp_survey.specs.Justified.{IsJustified}
use Rattle.jp_survey.specs.Paths.{Line, Mark, Path, marks_of, strides_of}
use Rattle.jp_survey.specs.Surveys.{paths_in}
use Rattle.jp_survey.specs.Told.{Told, between, within}
use Rattle.jp_survey.specs.Trees.{AreCounted, AreCountedBeside, tree_folds, tree_paths}
use Rattle.jp_survey.specs.declared.tree.Tree.{Tree}

-- the paths of the nodes of some lines, and of some nodes of one more line
abbrev pub paths_beside : List Line → List Mark → List Path
paths_beside lines marks = paths_in lines ++ map (λ mark. mark.path) marks

-- A tree folds objects since some lines have many names there.
abbrev pub AreJustified : (fold : ℕ) → List Line → Tree → Type 0
AreJustified fold lines tree = IsJustified fold (paths_in lines) (tree_paths tree) (tree_folds tree)

-- The same, and some nodes of one more line.
abbrev pub AreJustifiedBeside : (fold : ℕ) → List Line → List Mark → Tree → Type 0
AreJustifiedBeside fold lines marks tree = IsJustified fold (paths_beside lines marks) (tree_paths tree) (tree_folds tree)

-- A tree that folds objects of more names than `fold` has counted the nodes of lines, and folds since these have many names.
pub record HasSeen (fold : ℕ) (lines : List Line) (tree : Tree) : Type 0 where
  pub limit : tree.fold ≡ fold
  pub counted : AreCounted lines tree
  pub justified : AreJustified fold lines tree

-- The same, and of a line that has begun some nodes, with all that is in them.
pub record HasBegun (fold : ℕ) (lines : List Line) (line : Line) (tree : Tree) : Type 0 where
  pub limit : tree.fold ≡ fold
  pub some : 0 < tree.lines
  pub counted : AreCountedBeside lines tree.lines (marks_of line) tree
  pub justified : AreJustifiedBeside fold lines (marks_of line) tree

-- The same where the nodes so far left these marks, and the places above the node at a location are there too.
pub record IsGoing (fold : ℕ) (lines : List Line) (marks : List Mark) (location : List Step) (tree : Tree) : Type 0 where
  pub limit : tree.fold ≡ fold
  pub some : 0 < tree.lines
  pub counted : AreCountedBeside lines tree.lines marks tree
  pub justified : IsJustified fold (paths_beside lines marks ++ strides_of location ∷ []) (tree_paths tree) (tree_folds tree)

-- The nodes so far are those of a line that has begun, and the one at a location comes next.
abbrev pub HasCome : (fold : ℕ) → List Line → Line → List Step → Tree → Type 0
HasCome fold lines line location tree = IsGoing fold lines (marks_of line) location tree

-- A tree has counted the nodes that were told so far, and `number` is that of the line that may go on.
abbrev pub HasTold : (fold : ℕ) → Told → (number : Option ℕ) → Tree → Type 0
HasTold fold (between ended) number tree = (number ≡ None) × HasSeen fold ended tree
HasTold fold (within ended last line) number tree = (number ≡ Some last) × HasBegun fold ended line tree
