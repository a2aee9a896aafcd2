-- The lines of a stream, as far as they are answered.
use Rattle.std.specs.Prelude.{ℕ, List, drop, Bool, true, false}
use Rattle.jp_model.specs.declared.Framing.{Framing}
use Rattle.jp_model.specs.declared.Framing.TheVariants as framings
use Rattle.jp_model.specs.Lines.{closed_lines, closed_pieces, lines, without_byte_order_mark, without_empty}

-- the lines of a text whose end has come, as a line feed or, in a sequence, the RS of the next (RFC 7464, section 2.1)
abbrev pub closed_in : Framing → List ℕ → List (List ℕ)
closed_in framings.Lines text = closed_lines text
closed_in framings.Sequence text = without_empty (drop 1 (closed_pieces 0x1E text))

-- the lines of the bytes that came: all where the stream has ended, else those whose end has come
abbrev pub lines_come : Framing → Bool → List ℕ → List (List ℕ)
lines_come framing true bytes = lines framing bytes
lines_come framing false bytes = closed_in framing (without_byte_order_mark bytes)
