-- Words that are read bit by bit from the lowest up.
use Rattle.std.specs.Prelude.{ℕ, zero, suc, Bool, false, not, ◌&&◌}
use Rattle.jp_masks.specs.Machine.{xor}
use Rattle.jp_lanes.specs.Word.{bit}

-- an odd number of set bits stands directly before bit i
unfoldable pub odd_run : ℕ → ℕ → Bool
odd_run word zero = false
odd_run word (suc i) = bit word i && not (odd_run word i)

-- the bits below i, xored
unfoldable pub parity : ℕ → ℕ → Bool
parity word zero = false
parity word (suc i) = xor (parity word i) (bit word i)

-- The bits of `word` with each change from bit to bit kept, but 0 at each bit of `ends`.
unfoldable pub restarted : ℕ → ℕ → ℕ → Bool
restarted word ends zero = not (bit ends 0) && bit word 0
restarted word ends (suc i) =
    not (bit ends (suc i)) && xor (restarted word ends i) (xor (bit word i) (bit word (suc i)))

-- each bit moved up by one, and `first` below them
abbrev pub carried : ℕ → Bool → ℕ → Bool
carried word first zero = first
carried word first (suc i) = bit word i

-- what a run of backslashes escapes, where `first` is that of bit 0
unfoldable pub escaped_at : ℕ → Bool → ℕ → Bool
escaped_at backslash first zero = first
escaped_at backslash first (suc i) = bit backslash i && not (escaped_at backslash first i)
