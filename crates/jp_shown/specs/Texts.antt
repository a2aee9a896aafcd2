-- A text as a message shows it.
use Rattle.std.specs.Prelude.{ℕ, ◌+◌, ◌-◌, ◌/◌, ◌%◌, List, [], ◌∷◌, ◌++◌, Bool, ◌==◌, ◌||◌, ◌&&◌, if◌then◌else◌, leb, ltb, length, take, flat_map, codes, nat_eq}
use Rattle.std.specs.List.{starts_with}

-- a control character (Unicode, general category Cc)
abbrev pub is_control : ℕ → Bool
is_control c = ltb c 0x20 || (ltb 0x7E c && ltb c 0xA0)

-- the hexadecimal digit of a number below 16
abbrev pub hex_digit : ℕ → ℕ
hex_digit n = if ltb n 10 then 0x30 + n else (if ltb n 16 then 0x61 + (n - 10) else 0x30)

-- the number of a control character, in two hexadecimal digits
abbrev pub numbered_scalar : ℕ → List ℕ
numbered_scalar c = codes "\\u{" ++ hex_digit (c / 16) ∷ hex_digit (c % 16) ∷ codes "}"

-- a scalar as it is shown: a control character by its letter, where it has one, or by its number
abbrev pub shown_scalar : ℕ → List ℕ
shown_scalar c =
    if c == 0x09 then codes "\\t"
    else (if c == 0x0A then codes "\\n"
    else (if c == 0x0D then codes "\\r"
    else (if is_control c then numbered_scalar c else c ∷ [])))

-- a text as it is shown: its first scalars, and two points where there are more
abbrev pub shown_text : (most : ℕ) → List ℕ → List ℕ
shown_text most cs = if leb (length cs) most then flat_map shown_scalar cs else flat_map shown_scalar (take most cs) ++ codes ".."

-- a refusal of words that quotes one which is no option
abbrev pub quotes_word : List ℕ → Bool
quotes_word refusal = starts_with nat_eq refusal (codes "error: unexpected argument '")
