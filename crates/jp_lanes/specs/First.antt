-- Where the first byte of a kind stands.
use Rattle.std.specs.Prelude.{◌≡◌, ℕ, ◌<◌, ◌≤◌, Bool, false, IsTrue, not, ◌||◌, List, length, slice_index}
use Rattle.jp_model.specs.Characters.{is_backslash, is_control, is_digit}

-- a reverse solidus or a control character: within a string no such byte stands for itself (RFC 8259, section 7)
abbrev pub is_escape : ℕ → Bool
is_escape byte = is_backslash byte || is_control byte

-- a byte that is no digit
abbrev pub is_other : ℕ → Bool
is_other byte = not (is_digit byte)

-- from one position on the first byte that passes a test stands at another, or none is there and that is the end
pub record IsFirst (passes : ℕ → Bool) (bytes : List ℕ) (from at : ℕ) : Type 0 where
  pub order : from ≤ at
  pub within : at ≤ length bytes
  pub before : (k : ℕ) → from ≤ k → k < at → passes (slice_index bytes k) ≡ false
  pub stops : at < length bytes → IsTrue (passes (slice_index bytes at))
