-- How the JSON texts of a stream lie in it.
use Rattle.std.specs.Prelude.{◌≡◌, ℕ, true, List, [], ◌∷◌, ◌++◌}
use Rattle.jp_model.specs.Characters.{is_white}
use Rattle.jp_cut.specs.Cuts.{Piece}

-- these bytes are these pieces in turn, with white space at will between them, in front of them and after them (RFC 8259,
-- section 2)
pub data IsLaidOut : List ℕ → List Piece → Type 0 where
  nothing : IsLaidOut [] []
  white : (bytes : List ℕ) (pieces : List Piece) (byte : ℕ) → is_white byte ≡ true → IsLaidOut bytes pieces → IsLaidOut (bytes ++ byte ∷ []) pieces
  text : (bytes : List ℕ) (pieces : List Piece) (piece : Piece) → IsLaidOut bytes pieces → IsLaidOut (bytes ++ piece.bytes) (pieces ++ piece ∷ [])
