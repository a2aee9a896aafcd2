-- The loops of a slice, as the pseudocode of RFC 9535, section 2.3.4.2.2, has them.
use Rattle.std.specs.Prelude.{◌≡◌, ℤ, pos, ◌+ℤ◌, ◌-ℤ◌, int_lt, int_le, IsTrue, IsFalse, List, [], ◌∷◌, Option, unwrap_or, if◌then◌else◌}
use Rattle.std.specs.Int.{int_min, int_max}

-- Normalize(i, len)
abbrev pub normalize : ℤ → ℤ → ℤ
normalize i len = if int_le (pos 0) i then i else len +ℤ i

-- the default of start, by the step
abbrev pub start_of : Option ℤ → ℤ → ℤ → ℤ
start_of first step len = unwrap_or first (if int_le (pos 0) step then pos 0 else len -ℤ pos 1)

-- the default of end, by the step
abbrev pub end_of : Option ℤ → ℤ → ℤ → ℤ
end_of last step len = unwrap_or last (if int_le (pos 0) step then len else (pos 0 -ℤ len) -ℤ pos 1)

-- lower, of Bounds(start, end, step, len)
abbrev pub lower : Option ℤ → Option ℤ → ℤ → ℤ → ℤ
lower first last step len =
    if int_le (pos 0) step
    then int_min (int_max (normalize (start_of first step len) len) (pos 0)) len
    else int_min (int_max (normalize (end_of last step len) len) (pos 0 -ℤ pos 1)) (len -ℤ pos 1)

-- upper, of Bounds(start, end, step, len)
abbrev pub upper : Option ℤ → Option ℤ → ℤ → ℤ → ℤ
upper first last step len =
    if int_le (pos 0) step
    then int_min (int_max (normalize (end_of last step len) len) (pos 0)) len
    else int_min (int_max (normalize (start_of first step len) len) (pos 0 -ℤ pos 1)) (len -ℤ pos 1)

-- The indexes that the loop `WHILE i < upper: SELECT a(i); i = i + step` selects from i on.
abbrev pub SelectsUp : ℤ → ℤ → ℤ → List ℤ → Type 0
SelectsUp step upper i [] = IsFalse (int_lt i upper)
SelectsUp step upper i (j ∷ more) = IsTrue (int_lt i upper) × (j ≡ i) × SelectsUp step upper (i +ℤ step) more

-- The indexes that the loop `WHILE lower < i: SELECT a(i); i = i + step` selects from i on.
abbrev pub SelectsDown : ℤ → ℤ → ℤ → List ℤ → Type 0
SelectsDown step lower i [] = IsFalse (int_lt lower i)
SelectsDown step lower i (j ∷ more) = IsTrue (int_lt lower i) × (j ≡ i) × SelectsDown step lower (i +ℤ step) more
