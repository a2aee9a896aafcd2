-- Paths in which objects of many names are folded (profile).
use Rattle.std.specs.Prelude.{ℕ, List, [], ◌∷◌, ◌++◌, Bool, true, false, ◌&&◌, nat_lt, if◌then◌else◌}
use Rattle.std.specs.Set.{distinct_count}
use Rattle.jp_model.specs.Characters.{text_equal}
use Rattle.jp_survey.specs.Paths.{Path, Stride, element, member, others, stride_equal}

-- the name by which a path begins, where it does by one
abbrev pub first_name : Path → List (List ℕ)
first_name [] = []
first_name (element ∷ rest) = []
first_name (member scalars ∷ rest) = scalars ∷ []
first_name (others ∷ rest) = []

-- the names by which paths begin
abbrev pub first_names : List Path → List (List ℕ)
first_names [] = []
first_names (path ∷ more) = first_name path ++ first_names more

-- paths begin by more than `fold` different names
abbrev pub has_many_names : (fold : ℕ) → List Path → Bool
has_many_names fold paths = nat_lt fold (distinct_count text_equal (first_names paths))

-- the first stride of one of these paths: where they begin by many names, a member is not told from the others
abbrev pub folded_stride : (fold : ℕ) → List Path → Stride → Stride
folded_stride fold paths element = element
folded_stride fold paths (member scalars) = if has_many_names fold paths then others else member scalars
folded_stride fold paths others = others

-- a stride stands for itself, and that of the members of a folded object for each of them
abbrev pub stands_for : Stride → Stride → Bool
stands_for others (member scalars) = true
stands_for shown stride = stride_equal shown stride

-- what follows the first stride of a path, where another stands for it
abbrev pub rest_under : Stride → Path → List Path
rest_under shown [] = []
rest_under shown (stride ∷ rest) = if stands_for shown stride then rest ∷ [] else []

-- the same of paths
abbrev pub rests_under : Stride → List Path → List Path
rests_under shown [] = []
rests_under shown (path ∷ more) = rest_under shown path ++ rests_under shown more

-- One of these paths with its objects folded, from the top down.
abbrev pub folded : (fold : ℕ) → List Path → Path → Path
folded fold paths [] = []
folded fold paths (stride ∷ rest) =
    folded_stride fold paths stride ∷ folded fold (rests_under (folded_stride fold paths stride) paths) rest

-- a path is shown by another: each of its strides by the one that stands there
abbrev pub fits : Path → Path → Bool
fits [] [] = true
fits (shown ∷ more) (stride ∷ rest) = stands_for shown stride && fits more rest
fits _ _ = false
