-- The rows of what a search tells.
use Rattle.std.specs.Prelude.{ℕ, List, [], ◌∷◌, Bool, true, false}
use Rattle.jp_sink.specs.Events.{Event, event_text, gap_event, node_event, row_event}

-- A row that a search tells: whether its line is selected, whether it is the first of its stream or after a line that was given up,
-- so that it does not follow the row before it, and what it shows.
pub record ToldRow : Type 0 where
  pub selected : Bool
  pub first : Bool
  pub text : List ℕ

-- a row that follows the one before it
abbrev pub next_row : (selected : Bool) → List ℕ → ToldRow
next_row selected text = record { selected = selected; first = false; text = text }

-- the rows that are told, where `first` says whether a gap came after the row before them: a node is one that is selected
abbrev pub rows_from : (first : Bool) → List Event → List ToldRow
rows_from first [] = []
rows_from first (gap_event ∷ more) = rows_from true more
rows_from first (row_event selected text ∷ more) = record { selected = selected; first = first; text = text } ∷ rows_from false more
rows_from first (node_event n line node ∷ more) = record { selected = true; first = first; text = event_text (node_event n line node) } ∷ rows_from false more

-- and from the beginning, before which a gap stands whether it is told or not
abbrev pub told_rows : List Event → List ToldRow
told_rows events = rows_from true events
