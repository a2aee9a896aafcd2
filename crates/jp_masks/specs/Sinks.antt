-- What is stored of the front of a collection, line by line.
use Rattle.std.specs.Prelude.{ℕ, ◌+◌, ◌-◌, List, [], ◌∷◌, ◌++◌, length, Bool, if◌then◌else◌}
use Rattle.jp_model.specs.declared.Framing.{Framing}
use Rattle.jp_model.specs.Lines.{separator_of, closed_pieces, open_piece}
use Rattle.jp_model.specs.Json.Marks.{marks}
use Rattle.jp_lanes.specs.Word.{bit}
use Rattle.jp_masks.specs.Found.{one_if, is_line, bytes_of}
use Rattle.jp_masks.specs.declared.row.Row.{Row}

-- the row of a piece, if it is a line
abbrev pub row_if : Bool → ℕ → ℕ → ℕ → ℕ → List Row
row_if is start end from to = one_if is (record { start = start; end = end; positions_start = from; positions_end = to })

-- the rows of pieces, where the first begins at `start` and `positions` positions stand before it
abbrev pub rows_of : Framing → ℕ → ℕ → List (List ℕ) → List Row
rows_of framing start positions [] = []
rows_of framing start positions (piece ∷ rest) =
    row_if (is_line framing start (start + length piece)) start (start + length piece) positions (positions + length (marks piece))
    ++ rows_of framing (start + length piece + 1) (positions + length (marks piece)) rest

-- the marks of all pieces, each by its position in its piece
abbrev pub all_marks : List (List ℕ) → List ℕ
all_marks [] = []
all_marks (piece ∷ rest) = marks piece ++ all_marks rest

-- the rows, the positions, how many of these stand before the open line, and where it begins
pub record Sink : Type 0 where
  pub rows : List Row
  pub positions : List ℕ
  pub before : ℕ
  pub start : ℕ

-- what is stored of a text
unfoldable pub sink_of : Framing → List ℕ → Sink
sink_of framing text =
    let closed = closed_pieces (separator_of framing) text in
    record { rows = rows_of framing 0 0 closed; positions = all_marks closed ++ marks (open_piece (separator_of framing) text); before = length (all_marks closed); start = bytes_of closed }

-- the open line ends at `at`
abbrev pub close_at : Framing → Sink → ℕ → Sink
close_at framing sink at = record {
  rows = sink.rows ++ row_if (is_line framing sink.start at) sink.start at sink.before (length sink.positions);
  positions = sink.positions;
  before = length sink.positions;
  start = at + 1;
}

-- a mark at `at`
abbrev pub mark_at : Sink → ℕ → Sink
mark_at sink at = record { rows = sink.rows; positions = sink.positions ++ (at - sink.start) ∷ []; before = sink.before; start = sink.start }

-- a position of a block that begins at `base`: the end of a line, or a mark
abbrev pub add_position : Framing → ℕ → ℕ → Sink → ℕ → Sink
add_position framing ends base sink position = if bit ends position then close_at framing sink (base + position) else mark_at sink (base + position)

-- one after another
unfoldable pub add_positions : Framing → ℕ → ℕ → Sink → List ℕ → Sink
add_positions framing ends base sink [] = sink
add_positions framing ends base sink (position ∷ rest) = add_positions framing ends base (add_position framing ends base sink position) rest
