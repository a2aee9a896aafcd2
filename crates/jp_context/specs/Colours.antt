-- What rows in colours have to do with those without.
use Rattle.std.specs.Prelude.{◌≡◌, ℕ, List, [], ◌∷◌, Bool, true, false, ⊤}
use Rattle.jp_paint.specs.Laws.{Paints}
use Rattle.jp_context.specs.Groups.{context_text}
use Rattle.jp_context.specs.Told.{ToldRow, told_rows}
use Rattle.jp_sink.specs.Events.{Event, event_text, gap_event, node_event, row_event}

-- a row, and the same in colours: its text differs by escape sequences alone
pub record InColours (plain coloured : ToldRow) : Type 0 where
  pub selected : coloured.selected ≡ plain.selected
  pub first : coloured.first ≡ plain.first
  pub text : Paints plain.text coloured.text

-- as many rows, each the same in colours
abbrev pub AllInColours : (plain coloured : List ToldRow) → Type 0
AllInColours [] [] = ⊤
AllInColours [] (row ∷ coloured) = ⊥
AllInColours (row ∷ plain) [] = ⊥
AllInColours (row ∷ plain) (other ∷ coloured) = InColours row other × AllInColours plain coloured

abbrev pub is_gap : Event → Bool
is_gap gap_event = true
is_gap (row_event selected text) = false
is_gap (node_event n line node) = false

abbrev pub is_selected : Event → Bool
is_selected gap_event = false
is_selected (row_event selected text) = selected
is_selected (node_event n line node) = true

-- an event, and the same in colours, where a row may stand for a node
pub record EventInColours (plain coloured : Event) : Type 0 where
  pub gap : is_gap coloured ≡ is_gap plain
  pub selected : is_selected coloured ≡ is_selected plain
  pub text : Paints (event_text plain) (event_text coloured)

-- as many events, each the same in colours
abbrev pub TellInColours : (plain coloured : List Event) → Type 0
TellInColours [] [] = ⊤
TellInColours [] (event ∷ coloured) = ⊥
TellInColours (event ∷ plain) [] = ⊥
TellInColours (event ∷ plain) (other ∷ coloured) = EventInColours event other × TellInColours plain coloured

-- What is shown of rows in colours differs by escape sequences alone from what is shown of them without.
abbrev pub ColoursComeOffRows : Type 0
ColoursComeOffRows = (is_coloured : Bool) (before after : ℕ) (plain coloured : List ToldRow) → AllInColours plain coloured
    → Paints (context_text false before after plain) (context_text is_coloured before after coloured)

-- So it is where they are told.
abbrev pub ColoursComeOffTold : Type 0
ColoursComeOffTold = (is_coloured : Bool) (before after : ℕ) (plain coloured : List Event) → TellInColours plain coloured
    → Paints (context_text false before after (told_rows plain)) (context_text is_coloured before after (told_rows coloured))
