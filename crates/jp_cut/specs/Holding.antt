-- What a cutter holds of a stream.
use Rattle.std.specs.Prelude.{true, false, ◌≡◌, ℕ, ◌-◌, ◌≤◌, ◌^◌, List, [], ◌∷◌, ◌++◌, drop, length, min, slice_range, Option, MatchOption}
use Rattle.jp_cut.specs.declared.machine.Pieces.{Pieces}
use Rattle.jp_cut.specs.declared.cutter.PieceAt.{PieceAt}
use Rattle.jp_cut.specs.declared.cutter.Cutter.{Cutter}
use Rattle.jp_model.specs.Lines.{without_byte_order_mark}
use Rattle.jp_cut.specs.Cuts.{Piece, cut_of, pieces_come}
use Rattle.jp_cut.specs.Front.{may_become_mark}
use Rattle.jp_cut.specs.Machine.{nothing_open}
use Rattle.jp_cut.specs.declared.machine.Place.TheVariants.{Between}

-- These bytes of a stream, which has no byte order mark, are those that are cut and others that are held, and these pieces were
-- handed out of it.
pub record HasCut (pieces : Pieces) (fed : List ℕ) (handed : List Piece) (cutter : Cutter) : Type 0 where
  pub cut : List ℕ
  pub line_feeds : ℕ
  pub are : cutter.pieces ≡ pieces
  pub joined : fed ≡ cut ++ drop cutter.cut cutter.held.items
  pub state : cut_of pieces cut
      ≡ record { ended = handed; begun = slice_range cutter.held.items cutter.start cutter.cut; line_feeds = line_feeds; known = cutter.known }
  pub counted : cutter.line_feeds ≡ min line_feeds (2 ^ 64 - 1)

-- how many bytes are held that are of no piece that was handed out
abbrev pub held_len : Cutter → ℕ
held_len cutter = length cutter.held.items - cutter.start

-- how many bytes are held that are not cut
abbrev pub uncut_len : Cutter → ℕ
uncut_len cutter = length cutter.held.items - cutter.cut

-- the bytes from where to where are held
pub record IsHeld (cutter : Cutter) (at : PieceAt) : Type 0 where
  pub order : at.start ≤ at.end
  pub within : at.end ≤ length cutter.held.items

-- the bytes that are held there
abbrev pub bytes_at : Cutter → PieceAt → List ℕ
bytes_at cutter at = slice_range cutter.held.items at.start at.end

-- it is the piece that is held there
pub record IsPieceAt (cutter : Cutter) (at : PieceAt) (piece : Piece) : Type 0 where
  pub bytes : bytes_at cutter at ≡ piece.bytes
  pub is_closed : at.is_closed ≡ piece.is_closed
  pub line_feeds : at.line_feeds ≡ min piece.line_feeds (2 ^ 64 - 1)

-- one more piece was handed out, which is held there
pub record HandsOut (Has : List Piece → Type 0) (handed : List Piece) (cutter : Cutter) (at : PieceAt) : Type 0 where
  pub piece : Piece
  pub is : IsPieceAt cutter at piece
  pub has : Has (handed ++ piece ∷ [])

-- all bytes that came are held, and none is cut yet
pub record IsAtFront (pieces : Pieces) (stream : List ℕ) (handed : List Piece) (cutter : Cutter) : Type 0 where
  pub are : cutter.pieces ≡ pieces
  pub held : cutter.held.items ≡ stream
  pub none : handed ≡ []
  pub start : cutter.start ≡ 0
  pub cut : cutter.cut ≡ 0
  pub known : cutter.known ≡ nothing_open Between
  pub line_feeds : cutter.line_feeds ≡ 0

-- a byte order mark is dropped, if there was one, and whatever comes is none of it
pub record IsBehindFront (pieces : Pieces) (stream : List ℕ) (handed : List Piece) (cutter : Cutter) : Type 0 where
  pub bytes : List ℕ
  pub dropped : (more : List ℕ) → without_byte_order_mark (stream ++ more) ≡ bytes ++ more
  pub cut : HasCut pieces bytes handed cutter

-- these bytes of a stream came, and these pieces were handed out of it
pub record HasRead (pieces : Pieces) (stream : List ℕ) (handed : List Piece) (cutter : Cutter) : Type 0 where
  pub at_front : cutter.is_front ≡ true → IsAtFront pieces stream handed cutter
  pub behind_front : cutter.is_front ≡ false → IsBehindFront pieces stream handed cutter

-- of the bytes that came no other piece ended
pub record IsSpent (cutter : Cutter) : Type 0 where
  pub at_front : cutter.is_front ≡ true → may_become_mark cutter.held.items ≡ true
  pub behind_front : cutter.is_front ≡ false → cutter.cut ≡ length cutter.held.items

-- the next piece was handed out, or no other ended
abbrev pub GoesOn : Pieces → List ℕ → List Piece → Option PieceAt → Cutter → Type 0
GoesOn pieces stream handed next cutter =
    MatchOption next (HasRead pieces stream handed cutter) (HandsOut (λ now. HasRead pieces stream now cutter) handed cutter)

-- this is the last piece of a stream that has ended, or the pieces that were handed out are all
abbrev pub EndsWith : Pieces → List ℕ → List Piece → Option PieceAt → Cutter → Type 0
EndsWith pieces stream handed last cutter =
    MatchOption last (pieces_come pieces true stream ≡ handed)
    (HandsOut (λ now. pieces_come pieces true stream ≡ now) handed cutter)
