-- The marks that are to come while a line is read.
use Rattle.std.specs.Prelude.{◌≡◌, ℕ, ◌-◌, ◌<◌, ◌≤◌, Bool, true, false, not, ◌||◌, List, [], ◌∷◌, length, drop, get_or, ◌==◌}
use Rattle.std.specs.List.{filter, range_with_len}
use Rattle.jp_model.specs.Characters.{is_white, is_structural, is_quote, is_backslash}
use Rattle.jp_model.specs.Json.Places.{byte_at}
use Rattle.jp_model.specs.Json.Marks.{is_mark, is_inside, is_escaped}

-- the marks of a line from a place on
unfoldable pub marks_from : List ℕ → ℕ → List ℕ
marks_from line at = filter (is_mark line) (range_with_len at (length line - at))

-- the place is outside of every string and is not escaped, and these are the marks from there on
pub record IsAhead (line : List ℕ) (at : ℕ) (marks : List ℕ) : Type 0 where
  pub outside : is_inside line at ≡ false
  pub unescaped : is_escaped line at ≡ false
  pub are : marks ≡ marks_from line at

-- the first mark, or else the end of the line
abbrev pub first_or : List ℕ → ℕ → ℕ
first_or [] end = end
first_or (m ∷ ms) end = m

-- the same, and a token begins at the place, with the first of them, or the line ends there
pub record IsNext (line : List ℕ) (at : ℕ) (marks : List ℕ) : Type 0 where
  pub ahead : IsAhead line at marks
  pub first : at ≡ first_or marks (length line)

-- the first `count` marks stand before the place `to`, which is outside of every string
pub record IsPassed (line marks : List ℕ) (count to : ℕ) : Type 0 where
  pub within : count ≤ length marks
  pub ahead : IsAhead line to (drop count marks)

-- a closing bracket
abbrev pub is_closing : ℕ → Bool
is_closing b = (b == 0x5D) || (b == 0x7D)

-- the last of these marks is that of a closing bracket
abbrev pub IsClosed : List ℕ → List ℕ → Type 0
IsClosed line marks = 0 < length marks → is_closing (byte_at line (get_or marks (length marks - 1) 0)) ≡ true

-- a byte that may stand in a number or a word
abbrev pub in_token : ℕ → Bool
in_token b = not (is_white b || is_structural b || is_quote b || is_backslash b)

-- such bytes stand from a place up to another
abbrev pub IsSolid : List ℕ → ℕ → ℕ → Type 0
IsSolid line from to = (k : ℕ) → from ≤ k → k < to → in_token (byte_at line k) ≡ true
