-- Objects that are folded since they have many names.
use Rattle.std.specs.Prelude.{◌≡◌, ℕ, List, [], ◌∷◌, ◌++◌, true, ◌⊎◌, length, take, drop, flat_map, if◌then◌else◌}
use Rattle.std.specs.Set.{is_member}
use Rattle.jp_model.specs.Characters.{text_equal}
use Rattle.jp_survey.specs.Foldings.{Closed, folded_by}
use Rattle.jp_survey.specs.Folds.{first_names, has_many_names}
use Rattle.jp_survey.specs.Paths.{Path, member, path_equal}
use Rattle.jp_survey.specs.Places.{folds_of, has_path, paths_of}
use Rattle.jp_survey.specs.declared.links.Link.{Link}

-- what follows in a path after the node that is shown at another path, where it goes through one
abbrev pub rest_after : (folds : List Path) → (above : Path) → Path → List Path
rest_after folds above path = if path_equal above (folded_by folds (take (length above) path)) then drop (length above) path ∷ [] else []

-- the same of paths
abbrev pub rests_after : (folds : List Path) → (above : Path) → List Path → List Path
rests_after folds above paths = flat_map (rest_after folds above) paths

-- the names by which paths go on there
abbrev pub names_after : (folds : List Path) → (above : Path) → List Path → List (List ℕ)
names_after folds above paths = first_names (rests_after folds above paths)

-- The objects with these paths are those after which paths go on by more than `fold` different names.
abbrev pub AreFolds : (fold : ℕ) → (paths folds : List Path) → Type 0
AreFolds fold paths folds = (above : Path) → has_path folds above ≡ has_many_names fold (rests_after folds above paths)

-- Paths that were seen go on by the name of each place that is a member by name, after its object, and by many names after each
-- object that is folded: also where more objects are folded than these.
pub record IsJustified (fold : ℕ) (seen paths folds : List Path) : Type 0 where
  pub named : (more : List Path) → Closed more folds → (above : Path) (name : List ℕ)
      → has_path paths (above ++ member name ∷ []) ≡ true → is_member text_equal (names_after more (folded_by more above) seen) name ≡ true
  pub many : (more : List Path) → Closed more folds → (above : Path)
      → has_path folds above ≡ true → has_many_names fold (rests_after more (folded_by more above) seen) ≡ true

-- What is justified where some objects are folded stays so at other places, where more of them are.
abbrev pub StayJustified : (fold : ℕ) → List (List ℕ) → (links next : List Link) → Type 0
StayJustified fold names links next =
    (seen : List Path) → IsJustified fold seen (paths_of names links) (folds_of names links) → IsJustified fold seen (paths_of names next) (folds_of names next)

-- There is at most one path more.
abbrev pub WithPath : (old : List Path) → Path → (new : List Path) → Type 0
WithPath old path new = (new ≡ old) ⊎ (new ≡ old ++ path ∷ [])
