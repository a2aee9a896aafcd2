-- Which numbers have a canonical text that can be read.
use Rattle.std.specs.Prelude.{◌^◌, ◌<◌, length, ℤ, pos, ◌+ℤ◌, ◌-ℤ◌, nat_abs}
use Rattle.jp_canon.specs.Layout.{whole_text}

-- The power of ten of the first digit of m times ten to the e is below 10^15, so that an exponent has at most 15 digits if one
-- is written; 0 has none (RFC 8785, section 3.2.2.3; profile).
abbrev pub HasShortPower : ℤ → ℤ → Type 0
HasShortPower m e = 0 < nat_abs m → nat_abs ((pos (length (whole_text (nat_abs m))) +ℤ e) -ℤ pos 1) < 10 ^ 15
