-- Sets of lines, a bit for each line.
use Rattle.std.specs.Prelude.{ℕ, ◌*◌, ◌/◌, ◌%◌, ◌==◌, List, get_or, length, map}
use Rattle.std.specs.Int.{bit_at}
use Rattle.std.specs.List.{range_with_len}
use Rattle.jp_model.specs.Numbered.{numbers_where}

-- bit i of some words of 64 bits each
abbrev pub bit_of : List ℕ → ℕ → ℕ
bit_of words i = bit_at (get_or words (i / 64) 0) (i % 64)

-- all their bits
abbrev pub bits_of : List ℕ → List ℕ
bits_of words = map (bit_of words) (range_with_len 0 (64 * length words))

-- the numbers of the lines whose bits are set; the first bit is that of number 0, which no line has
abbrev pub numbers_in : List ℕ → List ℕ
numbers_in words = numbers_where (λ bit. bit == 1) 0 (bits_of words)
