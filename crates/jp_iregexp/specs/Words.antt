-- Words, kept from the first one on.
use Rattle.std.specs.Prelude.{ℕ, ◌≡◌, ◌-◌, ◌/◌, ◌%◌, nat_le, if◌then◌else◌, List, slice_index}
use Rattle.std.specs.Int.{bit_at}

-- word w of all words: those from the first one on are kept, and the others are 0
abbrev pub word_of : ℕ → List ℕ → ℕ → ℕ
word_of first words w = if nat_le first w then slice_index words (w - first) else 0

-- bit p of all bits is bit p % 64 of word p / 64
abbrev pub HasBit : ℕ → List ℕ → ℕ → Type 0
HasBit first words p = bit_at (word_of first words (p / 64)) (p % 64) ≡ 1
