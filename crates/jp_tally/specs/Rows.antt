-- The rows that are told.
use Rattle.std.specs.Prelude.{ℕ, ◌-◌, List, [], ◌∷◌, length, slice_index, take, ◌==◌, if◌then◌else◌}
use Rattle.jp_sink.specs.Events.{Event, event_text, gap_event, node_event, row_event}

-- a text without the line feed that ends it, if one does
abbrev pub row_of : List ℕ → List ℕ
row_of text = if slice_index text (length text - 1) == 0x0A then take (length text - 1) text else text

-- the rows that are told: one for each event but a gap, whatever bytes its text has
abbrev pub rows_told : List Event → List (List ℕ)
rows_told [] = []
rows_told (gap_event ∷ more) = rows_told more
rows_told (row_event selected text ∷ more) = row_of text ∷ rows_told more
rows_told (node_event n line node ∷ more) = row_of (event_text (node_event n line node)) ∷ rows_told more
