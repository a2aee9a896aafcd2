-- Words of the worked examples.
use Rattle.std.specs.Prelude.{ℕ, Bool, true, false, List, map}
use Rattle.jp_cut.specs.Cuts.{Piece}

-- the bytes of a piece, and whether it was closed
pub record Cutting : Type 0 where
  pub bytes : List ℕ
  pub is_closed : Bool

-- a piece that was closed
abbrev pub closed : List ℕ → Cutting
closed bytes = record { bytes = bytes; is_closed = true }

-- a piece that was not
abbrev pub unclosed : List ℕ → Cutting
unclosed bytes = record { bytes = bytes; is_closed = false }

-- pieces without the line feeds before them
abbrev pub bytes_and_ends : List Piece → List Cutting
bytes_and_ends pieces = map (λ (piece : Piece). let made : Cutting = record { bytes = piece.bytes; is_closed = piece.is_closed } in made) pieces
