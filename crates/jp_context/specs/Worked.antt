-- Words of the worked examples: rows of one letter each.
use Rattle.std.specs.Prelude.{ℕ, List, ◌∷◌, map, nat_lt, ◌==◌, if◌then◌else◌}
use Rattle.jp_model.specs.Rows.{line_feed}
use Rattle.jp_sink.specs.Events.{Event, gap_event, row_event}

-- a bar is a gap, and a letter a row, selected if it is a capital one
abbrev pub letter_event : ℕ → Event
letter_event letter = if letter == 0x7C then gap_event else row_event (nat_lt letter 0x5B) (letter ∷ line_feed)

abbrev pub letters : List ℕ → List Event
letters codes = map letter_event codes
