-- The lines of a piece of a stream, and what each is.
use Rattle.std.specs.Prelude.{◌≡◌, ℕ, ◌≤◌, List, All, length, map}
use Rattle.jp_model.specs.declared.Framing.{Framing}
use Rattle.jp_model.specs.declared.Span.{Span}
use Rattle.jp_model.specs.Json.Places.{bytes_between}
use Rattle.jp_model.specs.Json.Status.{blank, refused, parsed}
use Rattle.jp_model.specs.Json.Reader.{status_of}
use Rattle.jp_lines.specs.Stored.{IsRead, stored_text}
use Rattle.jp_lines.specs.Views.{text_of_view, tree_of_view}
use Rattle.jp_lines.specs.declared.batch.Batch.{Batch}
use Rattle.jp_lines.specs.declared.batch.BatchLine.{BatchLine}
use Rattle.jp_lines.specs.declared.batch.LineState.{LineState}
use Rattle.jp_lines.specs.declared.batch.LineState.TheVariants as states

-- the texts of the lines, in order
abbrev pub texts_of : Batch → List (List ℕ)
texts_of batch = map (stored_text batch.bytes.now) batch.lines.now

-- each line is read
abbrev pub IsBatch : Batch → Type 0
IsBatch batch = All (IsRead batch.framing batch.bytes.now batch.tapes.now) batch.lines.now

-- the line with this text is what is said of it; where it has a tree, it is opened
abbrev pub IsState : Framing → List ℕ → LineState → Type 0
IsState framing text states.Blank = status_of framing text ≡ blank
IsState framing text (states.Refused fault) = status_of framing text ≡ refused fault
IsState framing text (states.Tree view) = (status_of framing text ≡ parsed (tree_of_view view)) × (text_of_view view ≡ text)

-- a line of a batch is what it is said to be
abbrev pub IsBatchLine : Framing → BatchLine → Type 0
IsBatchLine framing line = IsState framing line.text.now line.state

-- ---- texts among some bytes

-- a span is of these bytes
abbrev pub IsSpanOf : List ℕ → Span → Type 0
IsSpanOf bytes span = (span.start ≤ span.end) × (span.end ≤ length bytes)

-- the bytes that stand there
abbrev pub text_at : List ℕ → Span → List ℕ
text_at bytes span = bytes_between bytes span.start span.end
