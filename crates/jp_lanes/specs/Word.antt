-- A word of 64 bits, where bit i stands for byte i.
use Rattle.std.specs.Prelude.{ℕ, ◌≡◌, ◌<◌, ◌==◌, Bool}
use Rattle.std.specs.Int.{bit_at}

-- the bit is set
unfoldable pub bit : ℕ → ℕ → Bool
bit word i = bit_at word i == 1

-- each bit of the word is what `of` says of its position
abbrev pub Says : ℕ → (ℕ → Bool) → Type 0
Says word of = (i : ℕ) → i < 64 → bit word i ≡ of i
