-- The entries of places, and those of rows that are listed.
use Rattle.std.specs.Prelude.{◌≡◌, List, [], ◌∷◌, ◌++◌, ◌==◌, Bool, true, false, min, map, chars, string_bytes, All, if◌then◌else◌}
use Rattle.std.specs.List.Sorted.{IsSorted}
use Rattle.jp_survey.specs.Counts.{lines_of, nodes_of, sum_where}
use Rattle.jp_survey.specs.Paths.{Path, Stride, element, member, others, path_equal}
use Rattle.jp_survey.specs.Surveys.{Entry, entries_with, entry_cmp, told_lines}
use Rattle.jp_survey.specs.declared.count.Count.{Count}
use Rattle.jp_survey.specs.declared.count.PlaceCounts.{PlaceCounts}
use Rattle.jp_survey.specs.declared.kind.NodeKind.{NodeKind}
use Rattle.jp_survey.specs.declared.kind.NodeKind.TheVariants as kinds
use Rattle.jp_survey.specs.declared.text.Row.{Row}
use Rattle.jp_survey.specs.declared.listing.Stride.{Stride as Listed}
use Rattle.jp_survey.specs.declared.listing.Stride.TheVariants as listed

-- a stride that is listed
abbrev pub stride_of_listed : Listed → Stride
stride_of_listed listed.Element = element
stride_of_listed (listed.Member name) = member (chars (string_bytes name.now))
stride_of_listed listed.Others = others

abbrev pub is_others_listed : Listed → Bool
is_others_listed listed.Element = false
is_others_listed (listed.Member name) = false
is_others_listed listed.Others = true

-- a path that is listed
abbrev pub path_of_listed : List Listed → Path
path_of_listed path = map stride_of_listed path

-- a row as an entry
abbrev pub entry_of : Row → Entry
entry_of row = record { path = path_of_listed row.path.now; kind = row.kind; nodes = row.nodes; lines = row.lines }

-- the entry of a kind at a path, by the count of its nodes
abbrev pub counted : Path → NodeKind → Count → Entry
counted path kind count = record { path = path; kind = kind; nodes = count.nodes; lines = told_lines path count.lines }

-- the same where there is a node of the kind
abbrev pub entry_at : Path → NodeKind → Count → List Entry
entry_at path kind count = if count.nodes == 0 then [] else counted path kind count ∷ []

-- the entries of all kinds at a path
abbrev pub entries_of : Path → PlaceCounts → List Entry
entries_of path counts =
    entry_at path kinds.Null counts.null ++ entry_at path kinds.Boolean counts.boolean ++ entry_at path kinds.Number counts.number
    ++ entry_at path kinds.String counts.string ++ entry_at path kinds.Array counts.array ++ entry_at path kinds.Object counts.object

-- the entries of places, each by its path and its counts
abbrev pub entries_at : List Path → List PlaceCounts → List Entry
entries_at (path ∷ paths) (counts ∷ more) = entries_of path counts ++ entries_at paths more
entries_at _ _ = []

-- Entries tell of places: each has the number of its nodes and of their texts, each path and kind of a node has one entry and no
-- other has any, and they stand in order.
pub record IsListing (paths : List Path) (counts : List PlaceCounts) (survey : List Entry) : Type 0 where
  pub nodes : All (λ entry. entry.nodes ≡ sum_where (nodes_of entry.kind) (path_equal entry.path) paths counts) survey
  pub lines : All (λ entry. entry.lines ≡ told_lines entry.path (sum_where (lines_of entry.kind) (path_equal entry.path) paths counts)) survey
  pub once : (path : Path) (kind : NodeKind) → entries_with path kind survey ≡ min 1 (sum_where (nodes_of kind) (path_equal path) paths counts)
  pub order : IsSorted entry_cmp survey
