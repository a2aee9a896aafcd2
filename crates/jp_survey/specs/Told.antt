-- The lines of the nodes that a search tells (profile).
use Rattle.std.specs.Prelude.{ℕ, ◌==◌, List, [], ◌∷◌, ◌++◌, fold, if◌then◌else◌}
use Rattle.jp_sink.specs.Events.{Event, gap_event, node_event, row_event}
use Rattle.jp_survey.specs.Paths.{Line}

-- What was told so far: lines that ended, and within a line that may go on its number and its nodes.
pub data Told : Type 0 where
  between : (ended : List Line) → Told
  within : (ended : List Line) → (number : ℕ) → Line → Told

-- all these lines
abbrev pub lines_in : Told → List Line
lines_in (between ended) = ended
lines_in (within ended number line) = ended ++ line ∷ []

-- The lines before the one of a number, of which a node comes next: it is the last one that goes on, if that has this number.
abbrev pub lines_before : Told → ℕ → List Line
lines_before (between ended) number = ended
lines_before (within ended last line) number = if last == number then ended else ended ++ line ∷ []

-- the nodes of it so far
abbrev pub line_so_far : Told → ℕ → Line
line_so_far (between ended) number = []
line_so_far (within ended last line) number = if last == number then line else []

-- one event more
abbrev pub told_more : Told → Event → Told
told_more told gap_event = between (lines_in told)
told_more told (row_event selected text) = told
told_more told (node_event number text node) = within (lines_before told number) number (line_so_far told number ++ node ∷ [])

-- the same from the first event on
abbrev pub told_by : List Event → Told
told_by events = fold told_more (between []) events

-- The lines of what was told: nodes of one number that follow one another, with no gap between, are of one line. A row tells of no
-- node.
abbrev pub lines_told : List Event → List Line
lines_told events = lines_in (told_by events)
