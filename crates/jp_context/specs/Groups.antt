-- Which rows are shown of those that a search tells: those that are selected, and those near one (profile).
use Rattle.std.specs.Prelude.{ℕ, ◌-◌, List, [], ◌∷◌, ◌++◌, codes, Bool, false, ◌&&◌, ◌||◌, not, nat_lt, if◌then◌else◌}
use Rattle.jp_model.specs.Rows.{line_feed}
use Rattle.jp_paint.specs.Colours.{painted}
use Rattle.jp_paint.specs.declared.part.Part.TheVariants as parts
use Rattle.jp_context.specs.Told.{ToldRow}
use Rattle.jp_context.specs.declared.shown.Shown.{Shown}
use Rattle.jp_context.specs.declared.shown.Shown.TheVariants as showing

-- one of the next rows of the stream, at most `count`, is selected
abbrev pub selected_soon : (count : ℕ) → List ToldRow → Bool
selected_soon count [] = false
selected_soon count (row ∷ more) = nat_lt 0 count && (not row.first && (row.selected || selected_soon (count - 1) more))

-- how many rows, this one included, are still to be shown after one that is selected: those of a stream end with it
abbrev pub to_follow : ℕ → ToldRow → ℕ
to_follow left row = if row.first then 0 else left

-- and how many are once this row is passed, where `after` are to be shown after each that is selected
abbrev pub left_after : ℕ → ℕ → ToldRow → ℕ
left_after after left row = if row.selected then after else to_follow left row - 1

-- a row is shown where it is selected, is still to be shown after one that is, or stands at most `before` rows before one
abbrev pub is_shown : ℕ → ℕ → ToldRow → List ToldRow → Bool
is_shown before left row more = row.selected || (nat_lt 0 (to_follow left row) || selected_soon before more)

-- A row, and whether it is shown.
pub record Mark : Type 0 where
  pub row : ToldRow
  pub shown : Bool

-- rows, each with whether it is shown, where `left` are still to be shown after one that is selected
abbrev pub marks_from : (before after left : ℕ) → List ToldRow → List Mark
marks_from before after left [] = []
marks_from before after left (row ∷ more) = record { row = row; shown = is_shown before left row more } ∷ marks_from before after (left_after after left row) more

abbrev pub marks : ℕ → ℕ → List ToldRow → List Mark
marks before after rows = marks_from before after 0 rows

-- what was shown, after a row that is not shown or where a stream begins
abbrev pub parted : Shown → Shown
parted showing.Nothing = showing.Nothing
parted showing.Neighbour = showing.Others
parted showing.Others = showing.Others

-- what was shown before a row
abbrev pub shown_before : Shown → ToldRow → Shown
shown_before shown row = if row.first then parted shown else shown

-- two hyphens, in the colour of a sign where rows have colours, part a row from others that are not next to it
abbrev pub separator : (coloured : Bool) → Shown → List ℕ
separator coloured showing.Nothing = []
separator coloured showing.Neighbour = []
separator coloured showing.Others = painted coloured parts.Sign (codes "--") ++ line_feed

-- the text of the rows that are shown, in groups
abbrev pub text_of : (coloured : Bool) → Shown → List Mark → List ℕ
text_of coloured shown [] = []
text_of coloured shown (mark ∷ more) =
    if mark.shown then separator coloured (shown_before shown mark.row) ++ (mark.row.text ++ text_of coloured showing.Neighbour more) else text_of coloured (parted shown) more

-- the text of rows with `before` rows of context before each that is selected, and `after` rows after it
abbrev pub context_text : (coloured : Bool) → (before after : ℕ) → List ToldRow → List ℕ
context_text coloured before after rows = text_of coloured showing.Nothing (marks before after rows)
