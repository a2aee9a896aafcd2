-- The colours of the parts of a row, which are those of GNU grep, by escape sequences of ECMA-48 (5.4, 8.3.41 and 8.3.117).
use Rattle.std.specs.Prelude.{ℕ, List, [], ◌∷◌, ◌++◌, codes, Bool, true, false, ◌==◌, ◌||◌, if◌then◌else◌}
use Rattle.jp_paint.specs.declared.part.Part.{Part}
use Rattle.jp_paint.specs.declared.part.Part.TheVariants as parts

-- the byte that begins an escape sequence
abbrev pub escape : ℕ
escape = 0x1B

-- an escape sequence that says something
abbrev pub sequence : (said : List ℕ) → List ℕ
sequence said = escape ∷ (codes "[" ++ said)

-- the numbers of a colour: magenta, green, cyan, and bold red
abbrev pub colour_of : Part → List ℕ
colour_of parts.Name = codes "35"
colour_of parts.Place = codes "32"
colour_of parts.Sign = codes "36"
colour_of parts.Node = codes "01;31"

-- what begins the colour of a part: the colour, and that the rest of the line is cleared
abbrev pub start_of : Part → List ℕ
start_of part = sequence (colour_of part ++ codes "m") ++ sequence (codes "K")

-- what ends a colour
abbrev pub stop : List ℕ
stop = sequence (codes "m") ++ sequence (codes "K")

-- a part of a row, by whether rows have colours
abbrev pub painted : (coloured : Bool) → Part → List ℕ → List ℕ
painted false part text = text
painted true part text = start_of part ++ (text ++ stop)

-- the last byte of such an escape sequence: `m` or `K`
abbrev pub ends_sequence : ℕ → Bool
ends_sequence byte = (byte == 0x6D) || (byte == 0x4B)

abbrev mutual
  -- a text without its escape sequences
  pub without_sequences : List ℕ → List ℕ
  without_sequences [] = []
  without_sequences (byte ∷ rest) = if byte == escape then after_sequence rest else byte ∷ without_sequences rest

  -- what follows the escape sequence that a text is within, without other ones
  pub after_sequence : List ℕ → List ℕ
  after_sequence [] = []
  after_sequence (byte ∷ rest) = if ends_sequence byte then without_sequences rest else after_sequence rest
