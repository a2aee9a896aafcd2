-- Queries put together, and where their nodes stand.
use Rattle.std.specs.Prelude.{ℕ, ◌+◌, ◌<◌, List, [], ◌∷◌}
use Rattle.jp_model.specs.Json.Tree.{span}
use Rattle.jp_model.specs.Meaning.Nodes.{Node}
use Rattle.jp_model.specs.Query.Syntax.{Segments, no_segments, segment, child_segment, Selectors, no_selectors, selector}
use Rattle.jp_model.specs.Rows.{Row, node_row, refusal_row}

-- the segments of one query, and then those of another
abbrev pub continued : Segments → Segments → Segments
continued no_segments more = more
continued (segment s ss) more = segment s (continued ss more)

-- some selectors, and then others
abbrev pub beside : Selectors → Selectors → Selectors
beside no_selectors more = more
beside (selector s ss) more = selector s (beside ss more)

-- the query of one child segment, as `$[a,b]` is of two selectors
abbrev pub children_by : Selectors → Segments
children_by ss = segment (child_segment ss) no_segments

-- the node begins before the others
abbrev pub IsBefore : Node → List Node → Type 0
IsBefore n [] = Unit {0}
IsBefore n (m ∷ ms) = ((span n.tree).start < (span m.tree).start) × IsBefore n ms

-- each node begins before those that follow it in the list
abbrev pub BeginsInTurn : List Node → Type 0
BeginsInTurn [] = Unit {0}
BeginsInTurn (n ∷ ns) = IsBefore n ns × BeginsInTurn ns

-- the row of the line that stands a given number of lines later
abbrev pub lines_later : ℕ → Row → Row
lines_later k (node_row line n) = node_row (line + k) n
lines_later k (refusal_row line fault) = refusal_row (line + k) fault
