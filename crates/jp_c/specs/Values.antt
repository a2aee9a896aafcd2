-- The values of a text, one on each line.
use Rattle.std.specs.Prelude.{◌≡◌, ℕ, List, [], ◌∷◌, Option, Some, None, false, true, slice_get}
use Rattle.jp_cut.specs.declared.machine.Pieces.TheVariants as pieces
use Rattle.jp_form.specs.declared.form.Units.{Units}
use Rattle.jp_form.specs.declared.form.Units.TheVariants as unit
use Rattle.jp_grep.specs.Items.{items_come}
use Rattle.jp_grep.specs.Rows.{refused_count}
use Rattle.jp_grep.specs.declared.question.Queries.TheVariants as purposes
use Rattle.jp_grep.specs.declared.question.Question.{Question}
use Rattle.jp_c.specs.Asked.{Asks, IsForeign, IsFound, line_rows, of_lines}
use Rattle.jp_c.specs.declared.question.FilterFault.{FilterFault}
use Rattle.jp_c.specs.declared.question.FilterFault.TheVariants as faults

-- the units, by their number: lines; JSON texts; elements of arrays
abbrev pub units_of : ℕ → Option Units
units_of number = slice_get (of_lines ∷ unit.Pieces pieces.Texts ∷ unit.Pieces pieces.Elements ∷ []) number

-- the rows of the units of a text that have a value, as jpgrep writes them for `$`
abbrev pub AreRows : (text : List ℕ) → Units → (left : List ℕ) → Type 0
AreRows text units left = (question : Question) × Asks [] [] purposes.Filter question × IsFound question units line_rows false text left

-- these, and how many units are refused, for the number of the units
abbrev pub AreValues : (text : List ℕ) → Option Units → (left : List ℕ) → (refused : ℕ) → Type 0
AreValues text None left refused = ⊥
AreValues text (Some units) left refused = AreRows text units left × (refused ≡ refused_count (items_come units true text))

-- why there are none: no units have the number, or the text is of another format, unless memory ran out
abbrev pub TellsValuesFault : FilterFault → (text : List ℕ) → Option Units → Type 0
TellsValuesFault faults.Number text units = units ≡ None
TellsValuesFault faults.Question text units = ⊥
TellsValuesFault faults.Format text units = IsForeign text
TellsValuesFault faults.Memory text units = Unit {0}
