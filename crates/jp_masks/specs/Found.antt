-- The lines of a collection, where they stand, and the marks of each.
use Rattle.std.specs.Prelude.{ℕ, ◌+◌, Bool, true, ◌&&◌, nat_lt, List, [], ◌∷◌, ◌++◌, length, slice_range, map, if◌then◌else◌}
use Rattle.jp_model.specs.declared.Framing.{Framing}
use Rattle.jp_model.specs.declared.Framing.TheVariants.{Lines, Sequence}
use Rattle.jp_model.specs.Lines.{separator_of, closed_pieces, open_piece, text_lines, sequence_texts}
use Rattle.jp_model.specs.Json.Marks.{marks}
use Rattle.jp_masks.specs.Written.{written}
use Rattle.jp_masks.specs.declared.row.Row.{Row}
use Rattle.jp_masks.specs.declared.lines.Marks.{Marks}

-- one line: its bytes of the collection, `end` excluded, and its marks by their positions in the line
pub record LineAt : Type 0 where
  pub start : ℕ
  pub end : ℕ
  pub positions : List ℕ

-- it, or none
abbrev pub one_if : {X : Type 0} → Bool → X → List X
one_if is x = if is then x ∷ [] else []

-- a piece that a separator ends is a line; in a sequence neither is one that is empty or stands before the first
-- separator (RFC 7464, section 2.1)
abbrev pub is_line : Framing → ℕ → ℕ → Bool
is_line Lines start end = true
is_line Sequence start end = nat_lt 0 start && nat_lt start end

-- the last piece is one unless it is empty (profile)
abbrev pub is_last_line : Framing → ℕ → ℕ → Bool
is_last_line Lines start end = nat_lt start end
is_last_line Sequence start end = nat_lt 0 start && nat_lt start end

-- the lines among pieces, where the first begins at `start`
abbrev pub lines_at : Framing → ℕ → List (List ℕ) → List LineAt
lines_at framing start [] = []
lines_at framing start (piece ∷ rest) =
    one_if (is_line framing start (start + length piece)) (record { start = start; end = start + length piece; positions = marks piece })
    ++ lines_at framing (start + length piece + 1) rest

-- how many bytes pieces have with their separators
abbrev pub bytes_of : List (List ℕ) → ℕ
bytes_of [] = 0
bytes_of (piece ∷ rest) = length piece + 1 + bytes_of rest

-- the lines whose end has come
unfoldable pub closed_at : Framing → List ℕ → List LineAt
closed_at framing text = lines_at framing 0 (closed_pieces (separator_of framing) text)

-- the line that the end of the text ends
abbrev pub last_at : Framing → ℕ → List ℕ → List LineAt
last_at framing start piece = one_if (is_last_line framing start (start + length piece)) (record { start = start; end = start + length piece; positions = marks piece })

-- all lines of a collection whose byte order mark was dropped
unfoldable pub all_at : Framing → List ℕ → List LineAt
all_at framing text =
    closed_at framing text ++ last_at framing (bytes_of (closed_pieces (separator_of framing) text)) (open_piece (separator_of framing) text)

-- the lines of a collection whose byte order mark was dropped
abbrev pub lines_in : Framing → List ℕ → List (List ℕ)
lines_in Lines text = text_lines text
lines_in Sequence text = sequence_texts text

-- a row as a line
abbrev pub line_of : List ℕ → Row → LineAt
line_of positions row = record { start = row.start; end = row.end; positions = slice_range positions row.positions_start row.positions_end }

-- the lines that were found
unfoldable pub found : Marks → List LineAt
found sink = map (line_of (written sink.positions)) sink.rows.items
