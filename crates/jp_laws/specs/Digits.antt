-- Whole numbers in decimal digits, however large they are, without leading zeros.
use Rattle.std.specs.Prelude.{suc, List, ◌∷◌, ℤ, pos, negsuc, ℕ}
use Rattle.jp_canon.specs.Layout.{whole_text}

-- the digits of an integer, with a minus where it is negative
abbrev pub signed_digits : ℤ → List ℕ
signed_digits (pos n) = whole_text n
signed_digits (negsuc n) = 45 ∷ whole_text (suc n)
