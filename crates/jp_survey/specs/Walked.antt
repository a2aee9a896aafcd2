-- Places in the order of their paths.
use Rattle.std.specs.Prelude.{◌≡◌, ℕ, ◌+◌, ◌<◌, List, [], ◌∷◌, ◌++◌, ◌⊎◌, flat_map, length, slice_index_or, take}
use Rattle.std.specs.Cmp.Lexicographic.{slice_cmp}
use Rattle.std.specs.declared.cmp.Ordering.TheVariants.{Less}
use Rattle.jp_survey.specs.Counts.{counts_at}
use Rattle.jp_survey.specs.Entries.{entries_of, path_of_listed, stride_of_listed}
use Rattle.jp_survey.specs.Paths.{Path, Stride}
use Rattle.jp_survey.specs.Places.{link_at, path_at, stride_in}
use Rattle.jp_survey.specs.Surveys.{Entry, stride_cmp}
use Rattle.jp_survey.specs.declared.count.PlaceCounts.{PlaceCounts}
use Rattle.jp_survey.specs.declared.links.Link.{Link}
use Rattle.jp_survey.specs.declared.listing.Way.{Way}
use Rattle.jp_survey.specs.declared.order.Below.{Below}

-- A place that is not the root is listed with the place above it and the step from there.
pub record IsBelow (names : List (List ℕ)) (links : List Link) (below : Below) : Type 0 where
  pub some : 0 < below.place
  pub within : below.place < length links
  pub parent : (link_at links below.place).parent ≡ below.parent
  pub stride : stride_of_listed below.stride ≡ stride_in names (link_at links below.place).step

-- Places are listed so, and of two below one place that stand together the second one's step is greater.
pub record AreBelow (names : List (List ℕ)) (links : List Link) (list : List Below) : Type 0 where
  pub each : (i : ℕ) (d : Below) → i < length list → IsBelow names links (slice_index_or list i d)
  pub rising : (i : ℕ) (d : Below) → i + 1 < length list → (slice_index_or list i d).parent ≡ (slice_index_or list (i + 1) d).parent
      → stride_cmp (stride_of_listed (slice_index_or list i d).stride) (stride_of_listed (slice_index_or list (i + 1) d).stride) ≡ Less

-- Two paths part at some place, where the second one ends by a greater step.
pub record IsLeftOf (left right : Path) : Type 0 where
  pub above : Path
  pub stride : Stride
  pub other : Stride
  pub rest : Path
  pub left-is : left ≡ above ++ stride ∷ rest
  pub right-is : right ≡ above ++ other ∷ []
  pub less : stride_cmp stride other ≡ Less

-- A path is the next one after another: it has a step more, or parts from it.
abbrev pub Follows : (left right : Path) → Type 0
Follows left right = ((stride : Stride) × (right ≡ left ++ stride ∷ [])) ⊎ IsLeftOf left right

-- Places are there, and each one's path parts from that of the one before it, which is greater.
pub record AreWaiting (paths : List Path) (waiting : List ℕ) : Type 0 where
  pub within : (i : ℕ) → i < length waiting → slice_index_or waiting i 0 < length paths
  pub falling : (i : ℕ) → i + 1 < length waiting → IsLeftOf (path_at paths (slice_index_or waiting (i + 1) 0)) (path_at paths (slice_index_or waiting i 0))

-- this holds of the path of the last of some places, if there is one
abbrev pub OfLast : (Path → Type 0) → (paths : List Path) → List ℕ → Type 0
OfLast P paths places = (i : ℕ) → i + 1 ≡ length places → P (path_at paths (slice_index_or places i 0))

-- Places wait, and the next one follows a path.
pub record AreNext (paths : List Path) (path : Path) (waiting : List ℕ) : Type 0 where
  pub falling : AreWaiting paths waiting
  pub next : OfLast (Follows path) paths waiting

-- Places are in the order of their paths.
pub record IsOrdered (paths : List Path) (order : List ℕ) : Type 0 where
  pub within : (i : ℕ) → i < length order → slice_index_or order i 0 < length paths
  pub rising : (i : ℕ) → i + 1 < length order → slice_cmp stride_cmp (path_at paths (slice_index_or order i 0)) (path_at paths (slice_index_or order (i + 1) 0)) ≡ Less

-- The same of all places.
pub record AreOrdered (paths : List Path) (order : List ℕ) : Type 0 where
  pub many : length order ≡ length paths
  pub ordered : IsOrdered paths order

-- The places on a way have the beginnings of its path.
pub record IsWayOf (paths : List Path) (places : List ℕ) (path : Path) : Type 0 where
  pub many : length places ≡ length path + 1
  pub at : (i : ℕ) → i < length places → path_at paths (slice_index_or places i 0) ≡ take i path

abbrev pub IsWay : (paths : List Path) → Way → Type 0
IsWay paths way = IsWayOf paths way.places.items (path_of_listed way.path.items)

-- the entries of places, one after another
abbrev pub entries_in : (paths : List Path) → List PlaceCounts → List ℕ → List Entry
entries_in paths counts places = flat_map (λ place. entries_of (path_at paths place) (counts_at counts place)) places
