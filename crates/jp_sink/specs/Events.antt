-- What a search tells.
use Rattle.std.specs.Prelude.{ℕ, List, [], ◌++◌, flat_map, Bool}
use Rattle.jp_model.specs.Meaning.Nodes.{Node}
use Rattle.jp_model.specs.Rows.{line_feed, source}

-- one of the things that it tells: that what comes next does not follow what came, since a stream begins or a line was given up; the
-- text of a row, and whether its line is selected; or a node that is selected, with the number and the bytes of its line
pub data Event : Type 0 where
  gap_event : Event
  row_event : (selected : Bool) → List ℕ → Event
  node_event : ℕ → (line : List ℕ) → Node → Event

-- the text of an event: of a row its own, and of a node its bytes and a line feed
abbrev pub event_text : Event → List ℕ
event_text gap_event = []
event_text (row_event selected text) = text
event_text (node_event n line node) = source line node.tree ++ line_feed

-- and of some, one after another
abbrev pub text_of : List Event → List ℕ
text_of events = flat_map event_text events
