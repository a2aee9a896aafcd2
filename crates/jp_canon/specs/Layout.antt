-- One text for each exact value of a number: the layout of RFC 8785, section 3.2.2.3, with all digits in place of those of a
-- float.
use Rattle.std.specs.Prelude.{ℕ, ◌+◌, ◌-◌, ◌&&◌, ◌==◌, List, [], ◌∷◌, ◌++◌, length, map, take, drop, replicate, ℤ, pos, negsuc, ◌+ℤ◌, ◌-ℤ◌, nat_abs, int_le, int_lt, if◌then◌else◌}
use Rattle.std.specs.Int.Digits.{digits_of}
use Rattle.std.specs.List.{list_all}
use Rattle.jp_model.specs.Json.Numbers.{fraction_bytes}

-- the decimal digits of a whole number, however many it has
abbrev pub whole_text : ℕ → List ℕ
whole_text n = if n == 0 then 0x30 ∷ [] else map (λ digit. 0x30 + digit) (digits_of 10 n)

-- a given number of zeros
abbrev pub zeros : ℕ → List ℕ
zeros count = replicate count 0x30

-- digits without the zeros after the last other digit
abbrev pub without_trailing_zeros : List ℕ → List ℕ
without_trailing_zeros [] = []
without_trailing_zeros (d ∷ ds) = if list_all (λ digit. digit == 0x30) (d ∷ ds) then [] else d ∷ without_trailing_zeros ds

-- an exponent, always with its sign
abbrev pub exponent_text : ℤ → List ℕ
exponent_text e = (if int_lt e (pos 0) then 0x2D else 0x2B) ∷ whole_text (nat_abs e)

-- The digits s, whose first and last are not zeros, with the point n places after the front of them: k digits
-- stand for s times ten to the n - k.
abbrev pub with_point : (s : List ℕ) (n : ℤ) → List ℕ
with_point s n =
    if int_le (pos (length s)) n && int_le n (pos 21) then s ++ zeros (nat_abs n - length s)
    else if int_lt (pos 0) n && int_le n (pos 21) then take (nat_abs n) s ++ 0x2E ∷ drop (nat_abs n) s
    else if int_lt (negsuc 5) n && int_le n (pos 0) then 0x30 ∷ 0x2E ∷ zeros (nat_abs n) ++ s
    else take 1 s ++ fraction_bytes (drop 1 s) ++ 0x65 ∷ exponent_text (n -ℤ pos 1)

-- m times ten to the e, where m is not zero
abbrev pub size_text : ℕ → ℤ → List ℕ
size_text m e = with_point (without_trailing_zeros (whole_text m)) (pos (length (whole_text m)) +ℤ e)

-- m times ten to the e
abbrev pub number_text : ℤ → ℤ → List ℕ
number_text m e =
    if nat_abs m == 0 then 0x30 ∷ []
    else if int_lt m (pos 0) then 0x2D ∷ size_text (nat_abs m) e
    else size_text (nat_abs m) e
