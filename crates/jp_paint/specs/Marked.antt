-- A line in which some bytes are coloured.
use Rattle.std.specs.Prelude.{ℕ, ◌+◌, List, [], ◌∷◌, ◌++◌, Bool, true, false, ◌&&◌, max, min, nat_le, nat_lt}
use Rattle.jp_model.specs.Json.Places.{bytes_between}
use Rattle.std.specs.List.{list_any}
use Rattle.jp_model.specs.declared.Span.{Span}
use Rattle.jp_paint.specs.Colours.{start_of, stop}
use Rattle.jp_paint.specs.declared.part.Part.TheVariants as parts

-- a place of a line is within a span
abbrev pub is_within : (place : ℕ) → Span → Bool
is_within place span = nat_le span.start place && nat_lt place span.end

-- the byte at a place of a line is coloured: it is within one of some spans
abbrev pub is_marked : List Span → (place : ℕ) → Bool
is_marked spans place = list_any (is_within place) spans

-- what stands between two bytes, by whether the first and the second of them are coloured
abbrev pub turn : (before now : Bool) → List ℕ
turn false true = start_of parts.Node
turn true false = stop
turn before now = []

-- the bytes of a line from a place on, those within some spans coloured, by whether the byte before them is
abbrev pub marked_from : List Span → (before : Bool) → (place : ℕ) → List ℕ → List ℕ
marked_from spans before place [] = turn before false
marked_from spans before place (byte ∷ rest) = turn before (is_marked spans place) ++ (byte ∷ marked_from spans (is_marked spans place) (place + 1) rest)

-- the bytes of a line from a place on, those within some spans coloured
abbrev pub marked_text : List Span → (place : ℕ) → List ℕ → List ℕ
marked_text spans place text = marked_from spans false place text

-- a run of bytes that are all coloured
abbrev pub run_text : List ℕ → List ℕ
run_text [] = []
run_text (byte ∷ rest) = start_of parts.Node ++ (byte ∷ (rest ++ stop))

-- a part of a line in which the bytes of some spans are coloured
abbrev pub marked_part : List Span → Span → (line : List ℕ) → List ℕ
marked_part spans part line = marked_text spans part.start (bytes_between line part.start part.end)

-- what of a span lies within a part of its line
abbrev pub clipped : (part span : Span) → Span
clipped part span =
    let start = min (max span.start part.start) part.end in
    record { start = start; end = min (max span.end start) part.end }
