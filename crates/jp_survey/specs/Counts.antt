-- How many nodes of each kind are at places.
use Rattle.std.specs.Prelude.{◌≡◌, ℕ, ◌+◌, ◌<◌, ◌≤◌, ◌==◌, ◌&&◌, List, [], ◌∷◌, length, slice_index_or, slice_set, Bool, false, true, count_by, cond, map, take, All, if◌then◌else◌}
use Rattle.std.specs.List.{list_any}
use Rattle.jp_survey.specs.Paths.{Line, Mark, Path, path_equal, same_kind}
use Rattle.jp_survey.specs.Places.{has_path, path_at}
use Rattle.jp_survey.specs.Surveys.{is_at, is_folded, lines_at, marks_in}
use Rattle.jp_survey.specs.declared.count.Count.{Count}
use Rattle.jp_survey.specs.declared.count.PlaceCounts.{PlaceCounts}
use Rattle.jp_survey.specs.declared.kind.NodeKind.{NodeKind}
use Rattle.jp_survey.specs.declared.kind.NodeKind.TheVariants as kinds

-- of no node
abbrev pub no_count : Count
no_count = record { nodes = 0; lines = 0; last = 0 }

abbrev pub no_counts : PlaceCounts
no_counts = record { null = no_count; boolean = no_count; number = no_count; string = no_count; array = no_count; object = no_count }

-- of one kind
abbrev pub count_of : PlaceCounts → NodeKind → Count
count_of counts kinds.Null = counts.null
count_of counts kinds.Boolean = counts.boolean
count_of counts kinds.Number = counts.number
count_of counts kinds.String = counts.string
count_of counts kinds.Array = counts.array
count_of counts kinds.Object = counts.object

-- with another count of one kind
abbrev pub with_count : PlaceCounts → NodeKind → Count → PlaceCounts
with_count counts kinds.Null count = record counts { null = count }
with_count counts kinds.Boolean count = record counts { boolean = count }
with_count counts kinds.Number count = record counts { number = count }
with_count counts kinds.String count = record counts { string = count }
with_count counts kinds.Array count = record counts { array = count }
with_count counts kinds.Object count = record counts { object = count }

-- how many nodes of a kind are at a place
abbrev pub nodes_of : NodeKind → PlaceCounts → ℕ
nodes_of kind counts = (count_of counts kind).nodes

-- a count with one node more, in the line of a number
abbrev pub more_of : (line : ℕ) → Count → Count
more_of line count = record { nodes = count.nodes + 1; lines = count.lines + cond (count.last == line) 0 1; last = line }

-- the counts of places with one node more
abbrev pub counts_at : List PlaceCounts → ℕ → PlaceCounts
counts_at places place = slice_index_or places place no_counts

abbrev pub with_node : List PlaceCounts → (place : ℕ) → NodeKind → (line : ℕ) → List PlaceCounts
with_node places place kind line = slice_set places place (with_count (counts_at places place) kind (more_of line (count_of (counts_at places place) kind)))

-- in how many lines such nodes are, and the number of the last of these lines
abbrev pub lines_of : NodeKind → PlaceCounts → ℕ
lines_of kind counts = (count_of counts kind).lines

abbrev pub last_of : NodeKind → PlaceCounts → ℕ
last_of kind counts = (count_of counts kind).last

-- the sum of a number of each place whose path passes a test
abbrev pub sum_where : (PlaceCounts → ℕ) → (Path → Bool) → List Path → List PlaceCounts → ℕ
sum_where number test [] counts = 0
sum_where number test (path ∷ paths) [] = 0
sum_where number test (path ∷ paths) (place ∷ places) = cond (test path) (number place) 0 + sum_where number test paths places

-- the path of a node passes a test, once it is shown, and the node is of a kind
abbrev pub passes : (shown : Path → Path) → (Path → Bool) → NodeKind → Mark → Bool
passes shown test kind mark = test (shown mark.path) && same_kind kind mark.kind

-- The nodes of lines are counted at the places of their paths, as these are shown: of those paths that pass any test there are as
-- many, and in as many lines where no object above is folded. No line that was counted has a greater number than `newest`.
pub record Counted (shown : Path → Path) (lines : List Line) (newest : ℕ) (paths : List Path) (places : List PlaceCounts) : Type 0 where
  pub nodes : (test : Path → Bool) (kind : NodeKind) → sum_where (nodes_of kind) test paths places ≡ count_by (passes shown test kind) (marks_in lines)
  pub in_lines : (path : Path) (kind : NodeKind) → is_folded path ≡ false → sum_where (lines_of kind) (path_equal path) paths places ≡ lines_at shown lines path kind
  pub last : (k : ℕ) (kind : NodeKind) → k < length places → last_of kind (counts_at places k) ≤ newest

-- The same, and of one more line the nodes that were seen so far are counted too, in the line of a number.
pub record CountedBeside (shown : Path → Path) (lines : List Line) (line : ℕ) (marks : List Mark) (paths : List Path) (places : List PlaceCounts) : Type 0 where
  pub nodes : (test : Path → Bool) (kind : NodeKind)
      → sum_where (nodes_of kind) test paths places ≡ count_by (passes shown test kind) (marks_in lines) + count_by (passes shown test kind) marks
  pub in_lines : (path : Path) (kind : NodeKind) → is_folded path ≡ false
      → sum_where (lines_of kind) (path_equal path) paths places ≡ lines_at shown lines path kind + cond (list_any (is_at shown path kind) marks) 1 0
  pub last : (k : ℕ) (kind : NodeKind) → k < length places
      → (last_of kind (counts_at places k) ≤ line) × ((last_of kind (counts_at places k) == line) ≡ list_any (is_at shown (path_at paths k) kind) marks)
  pub placed : All (λ mark. has_path paths (shown mark.path) ≡ true) marks

-- a number of each kind is added up as places come together: how many nodes there are, or in how many lines
abbrev pub sums_of : (lines : Bool) → NodeKind → PlaceCounts → ℕ
sums_of lines kind counts = if lines then lines_of kind counts else nodes_of kind counts

-- The counts of some nodes were added at a place. No line is known there to be the last.
pub record Adds (old new : List PlaceCounts) (place : ℕ) (some : PlaceCounts) : Type 0 where
  pub sum : PlaceCounts
  pub inside : place < length old
  pub new_is : new ≡ slice_set old place sum
  pub nodes : (kind : NodeKind) → nodes_of kind sum ≡ nodes_of kind (counts_at old place) + nodes_of kind some
  pub in_lines : (kind : NodeKind) → lines_of kind sum ≡ lines_of kind (counts_at old place) + lines_of kind some
  pub last : (kind : NodeKind) → last_of kind sum ≡ 0

-- Some places have come together at others: `to` has for each the place to which it came. No line is known there to be the last.
pub record Joined (old new : List PlaceCounts) (to : List ℕ) (n : ℕ) : Type 0 where
  pub sums : (lines : Bool) (kind : NodeKind) (test : Path → Bool) (paths : List Path) → length paths ≡ length new
      → sum_where (sums_of lines kind) test paths new ≡ sum_where (sums_of lines kind) test (map (path_at paths) (take n to)) (take n old)
  pub last : (k : ℕ) (kind : NodeKind) → k < length new → last_of kind (counts_at new k) ≡ 0
