-- What rows in colours have to do with those without.
use Rattle.std.specs.Prelude.{◌≡◌, ℕ, List, ◌++◌, Bool, true, ◌==◌, not}
use Rattle.std.specs.List.{list_all}
use Rattle.jp_model.specs.declared.Span.{Span}
use Rattle.jp_paint.specs.Colours.{escape, painted, without_sequences}
use Rattle.jp_paint.specs.Marked.{marked_text}
use Rattle.jp_paint.specs.declared.part.Part.{Part}

-- a text without escape sequences: the byte that begins one is none of its own
abbrev pub is_plain : List ℕ → Bool
is_plain text = list_all (λ byte. not (byte == escape)) text

-- A text in colours is a plain one but for escape sequences, whatever follows it.
abbrev pub Paints : (plain coloured : List ℕ) → Type 0
Paints plain coloured = is_plain plain ≡ true → (rest : List ℕ) → without_sequences (coloured ++ rest) ≡ plain ++ without_sequences rest

-- A part of a row in its colour is that part, and a line with coloured bytes is that line.
abbrev pub ColoursAreSequences : Type 0
ColoursAreSequences = ((coloured : Bool) (part : Part) (text : List ℕ) → Paints text (painted coloured part text))
    × ((spans : List Span) (place : ℕ) (text : List ℕ) → Paints text (marked_text spans place text))

-- So are texts without colours, and texts one after another.
abbrev pub PaintedTextsJoin : Type 0
PaintedTextsJoin = ((text : List ℕ) → Paints text text)
    × ((plain coloured plain_rest coloured_rest : List ℕ) → Paints plain coloured → Paints plain_rest coloured_rest → Paints (plain ++ plain_rest) (coloured ++ coloured_rest))

-- Without its escape sequences such a text is the plain one.
abbrev pub ColoursComeOff : Type 0
ColoursComeOff = (plain coloured : List ℕ) → Paints plain coloured → is_plain plain ≡ true → without_sequences coloured ≡ plain
