-- Values that a line accepts, and how they lie in a stream (RFC 8259, section 2).
use Rattle.std.specs.Prelude.{◌≡◌, ℕ, ◌+◌, Bool, true, false, not, ◌||◌, ◌==◌, List, [], ◌∷◌, ◌++◌, length, map, flat_map}
use Rattle.std.specs.List.{filter}
use Rattle.jp_model.specs.declared.Framing.TheVariants.{Lines}
use Rattle.jp_model.specs.declared.LineFault.{LineFault}
use Rattle.jp_model.specs.Characters.{is_white, is_quote}
use Rattle.jp_model.specs.Json.Faults.{has_open_end}
use Rattle.jp_model.specs.Json.Reader.{status_of}
use Rattle.jp_model.specs.Json.Places.{bytes_between}
use Rattle.jp_model.specs.Json.Status.{LineStatus, blank, refused, parsed}
use Rattle.jp_model.specs.Json.Tree.{Tree, Value, null, boolean, number, string, container, array, object, span, value_of}
use Rattle.jp_cut.specs.Cuts.{Piece, Cut, line_feeds_in}
use Rattle.jp_cut.specs.Machine.{nothing_open}
use Rattle.jp_cut.specs.declared.machine.Pieces.{Pieces}
use Rattle.jp_cut.specs.declared.machine.Pieces.TheVariants.{Texts, Elements}
use Rattle.jp_cut.specs.declared.machine.Place.TheVariants.{Word}
use Rattle.jp_cut_laws.specs.Elements.{IsArray}

-- these bytes are a line that is accepted, and its value is all of them: no white space stands around it
pub record IsValue (bytes : List ℕ) (t : Tree) : Type 0 where
  pub accepted : status_of Lines bytes ≡ parsed t
  pub start : (span t).start ≡ 0
  pub end : (span t).end ≡ length bytes

-- the end of the stream, or white space, an opening bracket or a quotation mark (profile)
abbrev pub may_end_word : List ℕ → Bool
may_end_word [] = true
may_end_word (byte ∷ rest) = is_white byte || ((byte == 0x5B) || (byte == 0x7B)) || is_quote byte

-- this may follow a value: one of those after a number, true, false or null, and anything after a value whose bytes alone
-- show its end (profile)
abbrev pub may_follow : Tree → List ℕ → Bool
may_follow t rest = not (has_open_end (value_of t)) || may_end_word rest

-- this value is an array (RFC 8259, section 3)
abbrev pub is_array : Value → Bool
is_array null = false
is_array (boolean b) = false
is_array (number m e) = false
is_array (string points) = false
is_array (container array children) = true
is_array (container object children) = false

-- an array that is no piece, since its elements are the pieces
abbrev pub is_split : Pieces → Value → Bool
is_split Texts v = false
is_split Elements v = is_array v

-- These bytes are values in turn, with white space at will around them, and these are the bytes of the pieces: the values, or
-- the elements of those that are arrays.
pub data AreValues (pieces : Pieces) : List ℕ → List (List ℕ) → Type 0 where
  no_value : AreValues pieces [] []
  white : (byte : ℕ) (rest : List ℕ) (others : List (List ℕ)) → is_white byte ≡ true → AreValues pieces rest others → AreValues pieces (byte ∷ rest) others
  value : (bytes : List ℕ) (t : Tree) (rest : List ℕ) (others : List (List ℕ)) → IsValue bytes t → is_split pieces (value_of t) ≡ false → may_follow t rest ≡ true → AreValues pieces rest others → AreValues pieces (bytes ++ rest) (bytes ∷ others)
  split : (bytes : List ℕ) (elements : List (List ℕ)) (rest : List ℕ) (others : List (List ℕ)) → pieces ≡ Elements → IsArray bytes elements → AreValues pieces rest others → AreValues pieces (bytes ++ rest) (elements ++ others)

-- this piece was closed, and a line of its bytes is accepted
pub record IsTaken (piece : Piece) : Type 0 where
  pub closed : piece.is_closed ≡ true
  pub tree : Tree
  pub accepted : status_of Lines piece.bytes ≡ parsed tree

-- the bytes of each piece
abbrev pub bytes_of : List Piece → List (List ℕ)
bytes_of pieces = map (λ (piece : Piece). piece.bytes) pieces

-- ---- pieces and what follows them

-- a piece, with this number of line feeds before those that come before it
abbrev pub later : ℕ → Piece → Piece
later count piece = record { bytes = piece.bytes; is_closed = piece.is_closed; line_feeds = count + piece.line_feeds }

-- the cut of these bytes, whose pieces are these, and of what follows them, which alone has this cut
abbrev pub after_pieces : List Piece → List ℕ → Cut → Cut
after_pieces pieces front rest = record {
  ended = pieces ++ map (later (line_feeds_in front)) rest.ended;
  begun = rest.begun;
  line_feeds = line_feeds_in front + rest.line_feeds;
  known = rest.known;
}

-- the cut of bytes that are one piece, and of what follows them
abbrev pub after_piece : List ℕ → Cut → Cut
after_piece bytes rest = after_pieces (record { bytes = bytes; is_closed = true; line_feeds = 0 } ∷ []) bytes rest

-- the cut of a number, true, false or null that may go on: one piece is open
abbrev pub open_word : List ℕ → Cut
open_word bytes = record { ended = []; begun = bytes; line_feeds = 0; known = nothing_open Word }

-- ---- lines

-- a line is refused
pub record IsRefused (line : List ℕ) : Type 0 where
  pub fault : LineFault
  pub is : status_of Lines line ≡ refused fault

-- the bytes of the value of a line, where it has one
abbrev pub value_of_line : List ℕ → LineStatus → List (List ℕ)
value_of_line line blank = []
value_of_line line (refused fault) = []
value_of_line line (parsed t) = bytes_between line (span t).start (span t).end ∷ []

-- the same of each of some lines, in turn
abbrev pub values_of_lines : List (List ℕ) → List (List ℕ)
values_of_lines lines = flat_map (λ line. value_of_line line (status_of Lines line)) lines

-- ---- one line

-- bytes without line feeds and carriage returns
abbrev pub on_one_line : List ℕ → List ℕ
on_one_line bytes = filter (λ byte. not ((byte == 0x0A) || (byte == 0x0D))) bytes
