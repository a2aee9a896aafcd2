-- The positions of the set bits of a word.
use Rattle.std.specs.Prelude.{◌≡◌, ◌<◌, ℕ, List, [], length, take, get_or}
use Rattle.std.specs.List.{filter, range_with_len}
use Rattle.jp_lanes.specs.Word.{bit}

-- lowest first
unfoldable pub set_bits : ℕ → List ℕ
set_bits word = filter (bit word) (range_with_len 0 64)

-- the same of a byte
unfoldable pub byte_bits : ℕ → List ℕ
byte_bits byte = filter (bit byte) (range_with_len 0 8)

-- each row of a table begins with the bits of its byte
unfoldable pub HasByteBits : List (List ℕ) → Type 0
HasByteBits rows = (byte : ℕ) → byte < 256 → take (length (byte_bits byte)) (get_or rows byte []) ≡ byte_bits byte
