-- Where tokens end.
use Rattle.std.specs.Prelude.{◌≡◌, ℕ, ◌<◌, ◌≤◌, ◌||◌, ◌==◌, Bool, false, List}
use Rattle.jp_model.specs.Characters.{is_white, is_digit}
use Rattle.jp_lanes.specs.First.{is_escape}
use Rattle.jp_model.specs.Json.Places.{byte_at}
use Rattle.jp_model.specs.Json.Marks.{is_unescaped_quote}

-- a byte of a number's spelling (RFC 8259, section 6)
abbrev pub in_number : ℕ → Bool
in_number b = is_digit b || (b == 0x2E) || (b == 0x65) || (b == 0x45) || (b == 0x2B) || (b == 0x2D)

-- no number goes on here
abbrev pub Ended : List ℕ → ℕ → Type 0
Ended line i = in_number (byte_at line i) ≡ false

-- no white space goes on here
abbrev pub Stops : List ℕ → ℕ → Type 0
Stops line i = is_white (byte_at line i) ≡ false

-- no reverse solidus and no control character stands before this place
unfoldable pub IsUnescaped : List ℕ → ℕ → Type 0
IsUnescaped line end = (k : ℕ) → k < end → is_escape (byte_at line k) ≡ false

-- no quote that ends a string stands from a place up to another
unfoldable pub IsUnquoted : List ℕ → ℕ → ℕ → Type 0
IsUnquoted line from to = (k : ℕ) → from ≤ k → k < to → is_unescaped_quote line k ≡ false
