-- The cut of a stream into pieces, whatever its bytes are. Any bytes have their pieces.
use Rattle.std.specs.Prelude.{◌≡◌, ℕ, ◌+◌, ◌==◌, Bool, true, false, List, [], ◌∷◌, ◌++◌, fold, count_by}
use Rattle.jp_model.specs.Lines.{without_byte_order_mark}
use Rattle.jp_cut.specs.declared.machine.Pieces.{Pieces}
use Rattle.jp_cut.specs.declared.machine.Place.{Place}
use Rattle.jp_cut.specs.declared.machine.Place.TheVariants.{Between, Word, Text, ArrayStart, NextElement, Element}
use Rattle.jp_cut.specs.declared.machine.Known.{Known}
use Rattle.jp_cut.specs.declared.machine.Turn.{Turn}
use Rattle.jp_cut.specs.declared.machine.Turn.TheVariants.{Passed, Kept, Last, Ended, EndedBefore}
use Rattle.jp_cut.specs.Machine.{nothing_open, step}

-- A piece is its bytes and whether it was closed. Beside them stands how many line feeds come before it (profile).
pub record Piece : Type 0 where
  pub bytes : List ℕ
  pub is_closed : Bool
  pub line_feeds : ℕ

-- the line feeds among some bytes
abbrev pub line_feeds_in : List ℕ → ℕ
line_feeds_in bytes = count_by (λ byte. byte == 0x0A) bytes

-- what some bytes are cut into: the pieces that ended, the bytes of the one that is open, how many line feeds come before
-- it, and what is known after all
pub record Cut : Type 0 where
  pub ended : List Piece
  pub begun : List ℕ
  pub line_feeds : ℕ
  pub known : Known

-- of no byte
abbrev pub start : Cut
start = record { ended = []; begun = []; line_feeds = 0; known = nothing_open Between }

-- the open piece, as it stands
abbrev pub piece_of : Bool → Cut → Piece
piece_of is_closed cut = record { bytes = cut.begun; is_closed = is_closed; line_feeds = cut.line_feeds }

-- the open piece ends
abbrev pub close : Cut → Cut
close cut = record {
  ended = cut.ended ++ piece_of true cut ∷ [];
  begun = [];
  line_feeds = cut.line_feeds + line_feeds_in cut.begun;
  known = cut.known;
}

-- a byte is of the open piece
abbrev pub keep : Cut → ℕ → Cut
keep cut byte = record { ended = cut.ended; begun = cut.begun ++ byte ∷ []; line_feeds = cut.line_feeds; known = cut.known }

-- a byte is of no piece
abbrev pub pass : Cut → ℕ → Cut
pass cut byte = record {
  ended = cut.ended;
  begun = [];
  line_feeds = cut.line_feeds + line_feeds_in (byte ∷ []);
  known = cut.known;
}

-- what a byte does to the pieces
abbrev pub turned : Turn → Cut → ℕ → Cut
turned Passed cut byte = pass cut byte
turned Kept cut byte = keep cut byte
turned Last cut byte = close (keep cut byte)
turned Ended cut byte = pass (close cut) byte
turned EndedBefore cut byte = keep (close cut) byte

-- after one more byte
unfoldable pub take_in : Pieces → Cut → ℕ → Cut
take_in pieces cut byte =
    let done = step pieces cut.known byte in
    let new = turned done.turn cut byte in
    record { ended = new.ended; begun = new.begun; line_feeds = new.line_feeds; known = done.known }

-- of bytes without a byte order mark
unfoldable pub cut_of : Pieces → List ℕ → Cut
cut_of pieces bytes = fold (take_in pieces) start bytes

-- The piece that the end of the stream ends. It is not closed where brackets or a string are open.
abbrev pub last_at : Place → Cut → List Piece
last_at Between cut = []
last_at Word cut = piece_of true cut ∷ []
last_at Text cut = piece_of false cut ∷ []
last_at ArrayStart cut = piece_of false cut ∷ []
last_at NextElement cut = piece_of false cut ∷ []
last_at Element cut = piece_of false cut ∷ []

-- all pieces of bytes that are cut
abbrev pub all_of : Cut → List Piece
all_of cut = cut.ended ++ last_at cut.known.place cut

-- the pieces of a stream; a byte order mark at its front is none of it (RFC 8259, section 8.1)
abbrev pub pieces_of : Pieces → List ℕ → List Piece
pieces_of pieces stream = all_of (cut_of pieces (without_byte_order_mark stream))

-- The pieces of what came of a stream that may go on: one that is open is one only where the stream has ended.
abbrev pub pieces_come : Pieces → Bool → List ℕ → List Piece
pieces_come pieces true bytes = pieces_of pieces bytes
pieces_come pieces false bytes = (cut_of pieces (without_byte_order_mark bytes)).ended

-- these are the first pieces of what came, whether the stream goes on or not
pub record AreFirst (pieces : Pieces) (bytes : List ℕ) (first : List Piece) : Type 0 where
  pub others : Bool → List Piece
  pub joined : (ended : Bool) → pieces_come pieces ended bytes ≡ first ++ others ended
