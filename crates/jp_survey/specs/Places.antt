-- The places of paths, each linked to the one above it.
use Rattle.std.specs.Prelude.{◌≡◌, ℕ, ◌<◌, List, [], ◌∷◌, ◌++◌, Bool, true, false, ◌&&◌, ◌==◌, map, flat_map, length, count_by, slice_index_or, if◌then◌else◌, chars, string_bytes, String}
use Rattle.std.specs.Coded.{Unit-prop, le_prop}
use Rattle.std.specs.List.{list_any}
use Rattle.jp_survey.specs.Paths.{Path, Stride, element, member, others, path_equal}
use Rattle.jp_survey.specs.declared.links.Link.{Link}
use Rattle.jp_survey.specs.declared.links.Links.{Links}
use Rattle.jp_survey.specs.declared.links.Step.{Step}
use Rattle.jp_survey.specs.declared.links.Step.TheVariants as steps

-- the scalars of names
abbrev pub names_in : {A : Type 0} → List (String A) → List (List ℕ)
names_in names = map (λ name. chars (string_bytes name)) names

-- the stride of a step, which has a member's name by its number
abbrev pub stride_in : List (List ℕ) → Step → Stride
stride_in names steps.Start = element
stride_in names steps.Element = element
stride_in names (steps.Member number) = member (slice_index_or names number [])
stride_in names steps.Others = others

-- the root, and another place
abbrev pub root_link : Link
root_link = record { parent = 0; step = steps.Start }

abbrev pub is_start : Step → Bool
is_start steps.Start = true
is_start steps.Element = false
is_start (steps.Member number) = false
is_start steps.Others = false

abbrev pub is_named : Step → Bool
is_named steps.Start = false
is_named steps.Element = false
is_named (steps.Member number) = true
is_named steps.Others = false

-- equality of steps, and of links
abbrev pub step_equal : Step → Step → Bool
step_equal steps.Start steps.Start = true
step_equal steps.Element steps.Element = true
step_equal (steps.Member m) (steps.Member n) = m == n
step_equal steps.Others steps.Others = true
step_equal _ _ = false

abbrev pub link_equal : Link → Link → Bool
link_equal left right = (left.parent == right.parent) && step_equal left.step right.step

abbrev pub has_link : List Link → Link → Bool
has_link links link = list_any (link_equal link) links

-- links with another, which goes last where it is new
abbrev pub with_link : List Link → Link → List Link
with_link links link = if has_link links link then links else links ++ link ∷ []

abbrev pub link_at : List Link → ℕ → Link
link_at links place = slice_index_or links place root_link

-- the path of a place, by those of the places above it
abbrev pub path_below : List (List ℕ) → List Path → Link → Path
path_below names above link =
    if is_start link.step then [] else slice_index_or above link.parent [] ++ stride_in names link.step ∷ []

abbrev pub paths_below : List (List ℕ) → List Path → List Link → List Path
paths_below names above [] = above
paths_below names above (link ∷ more) = paths_below names (above ++ path_below names above link ∷ []) more

-- the paths of places, each by its number
abbrev pub paths_of : List (List ℕ) → List Link → List Path
paths_of names links = paths_below names [] links

-- a place has this path
abbrev pub has_path : List Path → Path → Bool
has_path paths path = list_any (path_equal path) paths

-- how many members by name a place has
abbrev pub is_member_of : ℕ → Link → Bool
is_member_of place link = (link.parent == place) && is_named link.step

abbrev pub members_of : List Link → ℕ → ℕ
members_of links place = count_by (is_member_of place) links

-- the name of a step is one of these
abbrev pub IsKnown : List (List ℕ) → Step → Type 0
IsKnown names steps.Start = Unit {0}
IsKnown names steps.Element = Unit {0}
IsKnown names (steps.Member number) = number < length names
IsKnown names steps.Others = Unit {0}

-- and in at most one way
pub IsKnown-prop : (names : List (List ℕ)) (step : Step) → IsProp (IsKnown names step)
IsKnown-prop names steps.Start = Unit-prop
IsKnown-prop names steps.Element = Unit-prop
IsKnown-prop names (steps.Member number) = le_prop
IsKnown-prop names steps.Others = Unit-prop

abbrev pub path_at : List Path → ℕ → Path
path_at paths place = slice_index_or paths place []

-- Links are places: the root is first, every other place is below one with a smaller number, and no two have one path.
pub record ArePlaces (names : List (List ℕ)) (links : List Link) : Type 0 where
  pub some : 0 < length links
  pub root : link_at links 0 ≡ root_link
  pub below : (k : ℕ) → 0 < k → k < length links → ((link_at links k).parent < k) × (is_start (link_at links k).step ≡ false)
  pub known : (k : ℕ) → k < length links → IsKnown names (link_at links k).step
  pub distinct_names : (j k : ℕ) → j < length names → k < length names → slice_index_or names j [] ≡ slice_index_or names k [] → j ≡ k
  pub distinct_paths : (j k : ℕ) → j < length links → k < length links → path_at (paths_of names links) j ≡ path_at (paths_of names links) k → j ≡ k

-- a step to all others
abbrev pub is_rest : Step → Bool
is_rest steps.Start = false
is_rest steps.Element = false
is_rest (steps.Member number) = false
is_rest steps.Others = true

-- the paths of the objects that are folded: of those that have a place for all others
abbrev pub folds_at : List Path → Link → List Path
folds_at paths link = if is_rest link.step then path_at paths link.parent ∷ [] else []

abbrev pub folds_of : List (List ℕ) → List Link → List Path
folds_of names links = flat_map (folds_at (paths_of names links)) links

-- No object that is folded has a member by name.
abbrev pub AreApart : List (List ℕ) → List Link → Type 0
AreApart names links =
    (k : ℕ) → k < length links → is_named (link_at links k).step ≡ true → has_path (folds_of names links) (path_at (paths_of names links) (link_at links k).parent) ≡ false

-- The members by name are counted of each place of links.
abbrev pub AreMembersCounted : Links → Type 0
AreMembersCounted links = (k : ℕ) → slice_index_or links.members.items k 0 ≡ members_of links.links.keys k

-- The same, and each link is below a place that is there.
pub record AreLinked (links : Links) : Type 0 where
  pub counted : AreMembersCounted links
  pub within : (k : ℕ) → k < length links.links.keys → (link_at links.links.keys k).parent < length links.links.keys
