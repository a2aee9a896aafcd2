-- What a survey has of the nodes of lines (profile).
use Rattle.std.specs.Prelude.{true, false, Bool, ◌&&◌, Some, None, if◌then◌else◌, ◌≡◌, ℕ, List, flat_map, count_by, min, map, All, Option}
use Rattle.std.specs.List.{list_any}
use Rattle.std.specs.Cmp.Lexicographic.{slice_cmp}
use Rattle.std.specs.List.Sorted.{IsSorted}
use Rattle.std.specs.Ordering.{nat_cmp, ordering_then}
use Rattle.std.specs.declared.cmp.Ordering.{Ordering}
use Rattle.std.specs.declared.cmp.Ordering.TheVariants.{Less, Equal, Greater}
use Rattle.jp_survey.specs.Folds.{folded}
use Rattle.jp_survey.specs.Paths.{Line, Mark, Path, Stride, element, kind_number, marks_of, member, others, path_equal, same_kind}
use Rattle.jp_survey.specs.declared.kind.NodeKind.{NodeKind}

-- How many nodes of a kind have a path, and in how many lines there is one, where that is told.
pub record Entry : Type 0 where
  pub path : Path
  pub kind : NodeKind
  pub nodes : ℕ
  pub lines : Option ℕ

-- what is seen of some lines
abbrev pub marks_in : List Line → List Mark
marks_in lines = flat_map marks_of lines

-- and the paths of their nodes
abbrev pub paths_in : List Line → List Path
paths_in lines = map (λ mark. mark.path) (marks_in lines)

-- a path goes through an object that is folded
abbrev pub is_others : Stride → Bool
is_others element = false
is_others (member scalars) = false
is_others others = true

abbrev pub is_folded : Path → Bool
is_folded path = list_any is_others path

-- in how many lines a node is, where that is told: not below an object that is folded
abbrev pub told_lines : Path → ℕ → Option ℕ
told_lines path count = if is_folded path then None else Some count

-- the order of strides: elements, names by their scalars, others
abbrev pub stride_cmp : Stride → Stride → Ordering
stride_cmp element element = Equal
stride_cmp element stride = Less
stride_cmp (member x) element = Greater
stride_cmp (member x) (member y) = slice_cmp nat_cmp x y
stride_cmp (member x) others = Less
stride_cmp others others = Equal
stride_cmp others stride = Greater

-- the order of entries: by the path, step by step, and then by the kind
abbrev pub entry_cmp : Entry → Entry → Ordering
entry_cmp left right = ordering_then (slice_cmp stride_cmp left.path right.path) (nat_cmp (kind_number left.kind) (kind_number right.kind))

-- how many entries have a path and a kind
abbrev pub entries_with : Path → NodeKind → List Entry → ℕ
entries_with path kind survey = count_by (λ entry. path_equal path entry.path && same_kind kind entry.kind) survey

-- a node is of a kind and has a path, once it is shown
abbrev pub is_at : (shown : Path → Path) → Path → NodeKind → Mark → Bool
is_at shown path kind mark = path_equal path (shown mark.path) && same_kind kind mark.kind

-- how many nodes of some lines are
abbrev pub nodes_at : (shown : Path → Path) → List Line → Path → NodeKind → ℕ
nodes_at shown lines path kind = count_by (is_at shown path kind) (marks_in lines)

-- in how many lines one is
abbrev pub lines_at : (shown : Path → Path) → List Line → Path → NodeKind → ℕ
lines_at shown lines path kind = count_by (λ line. list_any (is_at shown path kind) (marks_of line)) lines

-- Entries tell of the nodes of lines, with their paths as they are shown: each has the number of its nodes and of their lines, each
-- path and kind of a node has one entry and no other has any, and they stand in order.
pub record IsSurveyBy (shown : Path → Path) (seen : List Line) (survey : List Entry) : Type 0 where
  pub nodes : All (λ entry. entry.nodes ≡ nodes_at shown seen entry.path entry.kind) survey
  pub lines : All (λ entry. entry.lines ≡ told_lines entry.path (lines_at shown seen entry.path entry.kind)) survey
  pub once : (path : Path) (kind : NodeKind) → entries_with path kind survey ≡ min 1 (nodes_at shown seen path kind)
  pub order : IsSorted entry_cmp survey

-- how the paths of nodes are shown: folded
abbrev pub shown_by : (fold : ℕ) → List Line → Path → Path
shown_by fold lines = folded fold (paths_in lines)

-- a survey of lines, in which objects of more names than `fold` are folded
abbrev pub IsSurvey : (fold : ℕ) → List Line → List Entry → Type 0
IsSurvey fold lines survey = IsSurveyBy (shown_by fold lines) lines survey
