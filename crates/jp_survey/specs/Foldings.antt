-- Paths below objects that are folded.
use Rattle.std.specs.Prelude.{◌≡◌, ℕ, ◌<◌, List, [], ◌∷◌, ◌++◌, Bool, true, ◌&&◌, ◌||◌, length, nat_lt, fold, if◌then◌else◌}
use Rattle.jp_survey.specs.Paths.{Path, Stride, element, member, others}
use Rattle.jp_survey.specs.Counts.{counts_at, last_of, sum_where, sums_of}
use Rattle.jp_survey.specs.Places.{ArePlaces, folds_of, has_link, has_path, members_of, paths_of}
use Rattle.jp_survey.specs.declared.count.PlaceCounts.{PlaceCounts}
use Rattle.jp_survey.specs.declared.kind.NodeKind.{NodeKind}
use Rattle.jp_survey.specs.declared.links.Link.{Link}
use Rattle.jp_survey.specs.declared.links.Step.TheVariants as steps

-- a stride from an object's path: where the object is folded, a member is not told from the others
abbrev pub shown_stride : (folds : List Path) → (above : Path) → Stride → Stride
shown_stride folds above element = element
shown_stride folds above (member scalars) = if has_path folds above then others else member scalars
shown_stride folds above others = others

-- a path with a stride more
abbrev pub longer : (folds : List Path) → (above : Path) → Stride → Path
longer folds above stride = above ++ shown_stride folds above stride ∷ []

-- a path, where the objects of these paths are folded
abbrev pub folded_by : (folds : List Path) → Path → Path
folded_by folds path = fold (longer folds) [] path

-- All objects of the second paths are folded by the first.
abbrev pub Closed : (folds some : List Path) → Type 0
Closed folds some = (path : Path) → has_path some path ≡ true → has_path folds (folded_by folds path) ≡ true

-- an object is to be folded: it has more members by name than it may have, or some where others are not told apart
abbrev pub is_over : (fold : ℕ) → List Link → ℕ → Bool
is_over fold links place = nat_lt fold (members_of links place) || (nat_lt 0 (members_of links place) && has_link links (record { parent = place; step = steps.Others }))

-- Places and their counts have become others, at which more objects are folded: where all of these are folded anyway, the paths that
-- pass any test have as many nodes and lines. No line is known there to be the last.
pub record Refolds (names : List (List ℕ)) (links : List Link) (counts : List PlaceCounts) (next : List Link) (new : List PlaceCounts) : Type 0 where
  pub places : ArePlaces names next
  pub closed : (folds : List Path) → Closed folds (folds_of names next) → Closed folds (folds_of names links)
  pub sums : (folds : List Path) → Closed folds (folds_of names next) → (lines : Bool) (kind : NodeKind) (test : Path → Bool)
      → sum_where (sums_of lines kind) (λ path. test (folded_by folds path)) (paths_of names next) new ≡ sum_where (sums_of lines kind) (λ path. test (folded_by folds path)) (paths_of names links) counts
  pub last : (k : ℕ) (kind : NodeKind) → k < length new → last_of kind (counts_at new k) ≡ 0
