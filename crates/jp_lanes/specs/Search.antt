-- Bytes that do not stand for themselves within a string.
use Rattle.std.specs.Prelude.{◌≡◌, ℕ, ◌<◌, ◌≤◌, Bool, false, IsTrue, ◌||◌, ◌==◌, nat_lt, List, length, slice_index}

-- a quotation mark, a reverse solidus or a control character (RFC 8259, section 7)
abbrev pub is_special : ℕ → Bool
is_special byte = (byte == 0x22) || (byte == 0x5C) || nat_lt byte 0x20

-- one of them stands among the bytes
pub record HasSpecial (bytes : List ℕ) : Type 0 where
  pub position : ℕ
  pub within : position < length bytes
  pub special : IsTrue (is_special (slice_index bytes position))

-- from one position on the first of them stands at another, or none is there and that is the end
pub record IsFirstSpecial (bytes : List ℕ) (from at : ℕ) : Type 0 where
  pub order : from ≤ at
  pub within : at ≤ length bytes
  pub plain : (k : ℕ) → from ≤ k → k < at → is_special (slice_index bytes k) ≡ false
  pub stops : at < length bytes → IsTrue (is_special (slice_index bytes at))
