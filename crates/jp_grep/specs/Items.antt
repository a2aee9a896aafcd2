-- What plays the lines of a stream: its lines, the texts of a sequence, its JSON texts, or the elements of its arrays.
use Rattle.std.specs.Prelude.{ℕ, zero, suc, count_by, ◌+◌, ◌-◌, ◌^◌, List, map, min, Bool, true, false, Option, Some, None, is_some}
use Rattle.jp_model.specs.declared.Framing.{Framing}
use Rattle.jp_model.specs.declared.Framing.TheVariants as framings
use Rattle.jp_model.specs.declared.LineFault.TheVariants as faults
use Rattle.jp_model.specs.Json.Status.{LineStatus, blank, refused, parsed}
use Rattle.jp_model.specs.Json.Reader.{status_of}
use Rattle.jp_cut.specs.Cuts.{Piece, pieces_come}
use Rattle.jp_form.specs.declared.form.Units.{Units}
use Rattle.jp_form.specs.declared.form.Units.TheVariants as unit
use Rattle.jp_grep.specs.Streams.{lines_come}

-- one of them: its bytes, what it is, the number of the line in which it begins, from 1, where that is told, how many of its nodes
-- are wanted, where not all are, and where memory was refused for its answer how many of its rows were written before that
pub record Item : Type 0 where
  pub text : List ℕ
  pub status : LineStatus
  pub from_line : Option ℕ
  pub most : Option ℕ
  pub given_up : Option ℕ

-- one of whose nodes no more are wanted is not judged: it comes after the last that is wanted
abbrev pub is_unjudged : (most : Option ℕ) → Bool
is_unjudged None = false
is_unjudged (Some zero) = true
is_unjudged (Some (suc most)) = false

-- how many of some items are not judged
abbrev pub unjudged_count : List Item → ℕ
unjudged_count items = count_by (λ item. is_unjudged item.most) items

-- one that is not judged counts as a blank one: nothing of it is selected, and it is not refused
abbrev pub judged : (most : Option ℕ) → LineStatus → LineStatus
judged None status = status
judged (Some zero) status = blank
judged (Some (suc most)) status = status

-- memory was refused for its answer
abbrev pub is_given_up : Item → Bool
is_given_up item = is_some item.given_up

-- a line, or a text of a sequence
abbrev pub line_item : Framing → List ℕ → Item
line_item framing line = record { text = line; status = status_of framing line; from_line = None; most = None; given_up = None }

-- a blank piece is no JSON text (RFC 8259, section 2)
abbrev pub unblanked : LineStatus → LineStatus
unblanked blank = refused faults.Grammar
unblanked (refused fault) = refused fault
unblanked (parsed t) = parsed t

-- A piece is what a line of its bytes is, but it is never blank. One whose end did not come is truncated, whatever else it has
-- (profile).
abbrev pub piece_judged : Bool → LineStatus → LineStatus
piece_judged false status = refused faults.Truncated
piece_judged true status = unblanked status

-- the number of the line that comes after some line feeds, or 2^64 - 1 where it is greater
abbrev pub line_after : ℕ → ℕ
line_after line_feeds = min (line_feeds + 1) (2 ^ 64 - 1)

-- a piece of this text, which was closed or not, after some line feeds
abbrev pub item_with : List ℕ → Bool → ℕ → Item
item_with text is_closed line_feeds = record {
  text = text;
  status = piece_judged is_closed (status_of framings.Lines text);
  from_line = Some (line_after line_feeds);
  most = None;
  given_up = None;
}

-- a JSON text or an element
abbrev pub piece_item : Piece → Item
piece_item piece = item_with piece.bytes piece.is_closed piece.line_feeds

-- how a stream is framed: where JSON texts or elements are cut from it, as lines are, and so any bytes are
abbrev pub framing_by : Units → Framing
framing_by (unit.Lines framing) = framing
framing_by (unit.Pieces pieces) = framings.Lines

-- what plays the lines of the bytes that came: all where the stream has ended, else those whose end has come
abbrev pub items_come : Units → Bool → List ℕ → List Item
items_come (unit.Lines framing) ended bytes = map (line_item framing) (lines_come framing ended bytes)
items_come (unit.Pieces pieces) ended bytes = map piece_item (pieces_come pieces ended bytes)
