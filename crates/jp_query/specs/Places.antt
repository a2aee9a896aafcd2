-- Where a text goes wrong.
use Rattle.std.specs.Prelude.{ℕ, List, IsUtf8}
use Rattle.std.specs.Str.{IsCharBoundary, IsValidUpTo}

-- a character begins there, or the text ends; in bytes that are not UTF-8 it is where their UTF-8 ends
abbrev pub IsPlace : List ℕ → ℕ → Type 0
IsPlace text place = (IsUtf8 text → IsCharBoundary text place) × ((IsUtf8 text → ⊥) → IsValidUpTo text place)
