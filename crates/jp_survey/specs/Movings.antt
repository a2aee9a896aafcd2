-- Places that move to others, where objects are folded.
use Rattle.std.specs.Prelude.{◌≡◌, ℕ, ◌+◌, ◌<◌, ◌≤◌, All, List, Bool, true, ◌&&◌, length, slice_index_or, Option, Some, None, if◌then◌else◌}
use Rattle.jp_survey.specs.Foldings.{is_over}
use Rattle.jp_survey.specs.Places.{AreLinked, AreMembersCounted, ArePlaces, is_named, link_at, path_at, paths_of}
use Rattle.jp_survey.specs.declared.folding.Deep.{Deep}
use Rattle.jp_survey.specs.declared.folding.Moving.{Moving}
use Rattle.jp_survey.specs.declared.links.Link.{Link}
use Rattle.jp_survey.specs.declared.links.Step.{Step}
use Rattle.jp_survey.specs.declared.links.Step.TheVariants as steps

-- a step, where members are not told from the others, or are
abbrev pub folded_step : (over : Bool) → Step → Step
folded_step over step = if is_named step && over then steps.Others else step

-- a link below the place to which the one above has moved
abbrev pub moved_link : (over : Bool) → (parent : ℕ) → Link → Link
moved_link over parent link = record { parent = parent; step = folded_step over link.step }

-- A place has moved to one of others, where the one above has. It is told among the others only where that is to be folded.
pub record IsMovedTo (fold : ℕ) (told next : List Link) (link : Link) (parent place : ℕ) : Type 0 where
  pub over : Bool
  pub within : place < length next
  pub is : link_at next place ≡ moved_link over parent link
  pub since : over ≡ true → is_over fold told parent ≡ true

-- A link is told that lies below a place to which another has moved: that of one below the other.
pub record IsToldOf (links : List Link) (where_to : ℕ → Option ℕ) (link : Link) : Type 0 where
  pub place : ℕ
  pub within : place < length links
  pub parent : where_to (link_at links place).parent ≡ Some link.parent
  pub step : link.step ≡ (link_at links place).step

-- All that lies below the places to which others have moved is told, each once.
pub record AreTold (links told : List Link) (where_to : ℕ → Option ℕ) : Type 0 where
  pub each : (j : ℕ) → j < length told → IsToldOf links where_to (link_at told j)
  pub once : (j k : ℕ) → j < length told → k < length told → link_at told j ≡ link_at told k → j ≡ k

-- where a place has moved, if it has
abbrev pub moved_to : List (Option ℕ) → ℕ → Option ℕ
moved_to places place = slice_index_or places place None

-- Some places have moved to others, which are places too.
pub record AreMoving (fold : ℕ) (names : List (List ℕ)) (links told next : List Link) (to : List (Option ℕ)) : Type 0 where
  pub places : ArePlaces names next
  pub many : length to ≡ length links
  pub root : moved_to to 0 ≡ Some 0
  pub at : (k place : ℕ) → 0 < k → k < length links → moved_to to k ≡ Some place
      → (parent : ℕ) × (moved_to to (link_at links k).parent ≡ Some parent) × IsMovedTo fold told next (link_at links k) parent place
  pub all_told : AreTold links told (moved_to to)
  pub reached : (place : ℕ) → 0 < place → place < length next → (k : ℕ) × (0 < k) × (k < length links) × (moved_to to k ≡ Some place)

-- Places that move go on so.
abbrev pub StayMoving : (fold : ℕ) → List Link → (old new : Moving) → Type 0
StayMoving fold links old new =
    (names : List (List ℕ)) → ArePlaces names links → AreMoving fold names links old.told.links.keys old.folded.links.keys old.places.items
    → AreMoving fold names links new.told.links.keys new.folded.links.keys new.places.items

-- Links are counted where places move, and these move to places that are there.
pub record AreCountedMoving (moving : Moving) : Type 0 where
  pub linked : AreLinked moving.folded
  pub told : AreMembersCounted moving.told
  pub within : (k place : ℕ) → moved_to moving.places.items k ≡ Some place → place < length moving.folded.links.keys

-- All places have moved to others, which are places too.
pub record HaveMoved (fold : ℕ) (names : List (List ℕ)) (links told next : List Link) (to : List ℕ) : Type 0 where
  pub places : ArePlaces names next
  pub many : length to ≡ length links
  pub root : slice_index_or to 0 0 ≡ 0
  pub at : (k : ℕ) → 0 < k → k < length links → IsMovedTo fold told next (link_at links k) (slice_index_or to (link_at links k).parent 0) (slice_index_or to k 0)
  pub all_told : AreTold links told (λ k. Some (slice_index_or to k 0))
  pub reached : (place : ℕ) → 0 < place → place < length next → (k : ℕ) × (0 < k) × (k < length links) × (slice_index_or to k 0 ≡ place)

-- The first places are listed, each with how many steps lead to it.
abbrev pub AreDeep : (names : List (List ℕ)) → List Link → List Deep → Type 0
AreDeep names links list = All (λ deep. (deep.place < length links) × (deep.depth ≡ length (path_at (paths_of names links) deep.place))) list

-- All places are listed so, in the order of these numbers.
pub record AreByDepth (names : List (List ℕ)) (links : List Link) (list : List Deep) : Type 0 where
  pub many : length list ≡ length links
  pub each : AreDeep names links list
  pub rising : (i : ℕ) (d : Deep) → i + 1 < length list → (slice_index_or list i d).depth ≤ (slice_index_or list (i + 1) d).depth
