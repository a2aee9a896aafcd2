-- How the lines and the indexes are kept.
use Rattle.std.specs.Prelude.{◌≡◌, ℕ, ◌<◌, ◌≤◌, ◌^◌, List, All, length, map, count_by}
use Rattle.jp_model.specs.declared.Framing.{Framing}
use Rattle.jp_model.specs.Json.Status.{LineStatus}
use Rattle.jp_model.specs.Plans.{is_tree}
use Rattle.jp_model.specs.Steps.{Step}
use Rattle.jp_model.specs.Script.Machine.{bytes_held, statuses, is_refused_status}
use Rattle.jp_syntax.specs.SingularPaths.{path_steps}
use Rattle.jp_index.specs.Entries.{entries_of}
use Rattle.jp_index.specs.Indexes.{IsIndexOf}
use Rattle.jp_index.specs.declared.index.ValueIndex.{ValueIndex}
use Rattle.jp_model.specs.Numbered.{numbers_where}
use Rattle.jp_index.specs.LineSetViews.{numbers_of}
use Rattle.jp_lines.specs.Stored.{IsRead, stored_text}
use Rattle.jp_lines.specs.declared.line.Line.{Line}
use Rattle.jp_store.specs.declared.counts.Counts.{Counts}

-- the path of an index
abbrev pub path_of : ValueIndex → List Step
path_of index = path_steps index.path

-- the index has the entries of these lines
abbrev pub IsOver : List LineStatus → ValueIndex → Type 0
IsOver statuses index = IsIndexOf index (path_of index) (entries_of (path_of index) statuses)

-- The counts are those of lines with these texts: the size, the number of trees, and the numbers of the refused lines.
pub record AreCounted (framing : Framing) (texts : List (List ℕ)) (counts : Counts) : Type 0 where
  pub held_is : counts.held ≡ bytes_held texts
  pub trees_is : counts.trees ≡ count_by is_tree (statuses framing texts)
  pub refused_is : numbers_of counts.refused ≡ numbers_where is_refused_status 1 (statuses framing texts)

-- The lines are read, few enough to be numbered by 32 bits, and counted, and each index is of them.
pub record IsKept (framing : Framing) (bytes tapes : List ℕ) (lines : List Line) (counts : Counts) (indexes : List ValueIndex) : Type 0 where
  pub each : All (IsRead framing bytes tapes) lines
  pub few : length lines < 2 ^ 32
  pub counted : AreCounted framing (map (stored_text bytes) lines) counts
  pub indexed : All (IsOver (statuses framing (map (stored_text bytes) lines))) indexes
  pub few_indexes : length indexes ≤ 16
