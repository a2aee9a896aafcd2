-- Rows by line: a list of lines, and a list of the places of all nodes.
use Rattle.std.specs.Prelude.{◌≡◌, ℕ, ◌-◌, ◌≤◌, ◌<◌, List, [], ◌∷◌, ◌++◌, length, map, take, drop, All, Some, slice_get}
use Rattle.jp_model.specs.declared.LineFault.{LineFault}
use Rattle.jp_model.specs.Meaning.Nodes.{Node, root_node, subtree}
use Rattle.jp_model.specs.Rows as model
use Rattle.jp_lines.specs.Views.{text_of_view, tree_of_view}
use Rattle.jp_lines.specs.declared.view.LineView.{LineView}
use Rattle.jp_nodes.specs.Spots.{spot_at}
use Rattle.jp_plan.specs.declared.rows.LineRows.{LineRows}
use Rattle.jp_plan.specs.declared.rows.LineRows.TheVariants as by_line
use Rattle.jp_plan.specs.declared.rows.Rows.{Rows}

-- a row, with the number of its line: the node at a place of the line, or the fault for which the line is refused
pub data Found : Type 0 where
  at_place : (line : ℕ) → LineView → (place : ℕ) → Found
  of_fault : (line : ℕ) → LineFault → Found

-- the rows of these lines: each takes its places in turn
abbrev pub expanded : List LineRows → List ℕ → List Found
expanded [] places = []
expanded (by_line.Nodes line view count ∷ lines) places = map (at_place line view) (take count places) ++ expanded lines (drop count places)
expanded (by_line.Refused line fault ∷ lines) places = of_fault line fault ∷ expanded lines places

-- a node of the line has this place
abbrev pub IsPlaceIn : LineView → ℕ → Type 0
IsPlaceIn view place = place < length (subtree (root_node (tree_of_view view)))

-- the places are those of the lines, one for each row of a node
abbrev pub AreInTurn : List LineRows → List ℕ → Type 0
AreInTurn [] places = places ≡ []
AreInTurn (by_line.Nodes line view count ∷ lines) places = (count ≤ length places) × All (IsPlaceIn view) (take count places) × AreInTurn lines (drop count places)
AreInTurn (by_line.Refused line fault ∷ lines) places = AreInTurn lines places

-- all of them
abbrev pub found_in : Rows → List Found
found_in rows = expanded rows.lines.items rows.places.items

-- the places of some rows are in their turn
abbrev pub IsInTurn : Rows → Type 0
IsInTurn rows = AreInTurn rows.lines.items rows.places.items

-- the node at a place
abbrev pub node_at : LineView → ℕ → Node
node_at view place = (spot_at (tree_of_view view) place).node

-- the row of the definition
abbrev pub found_row : Found → model.Row
found_row (at_place line view place) = model.node_row line (node_at view place)
found_row (of_fault line fault) = model.refusal_row line fault

-- those of the definition
abbrev pub found_rows : Rows → List model.Row
found_rows rows = map found_row (found_in rows)

-- the line that was opened has the row's number
abbrev pub IsOfItsLine : List (List ℕ) → Found → Type 0
IsOfItsLine lines (at_place line view place) = slice_get lines (line - 1) ≡ Some (text_of_view view)
IsOfItsLine lines (of_fault line fault) = Unit {0}

-- each row is of its line
abbrev pub AreOfTheirLines : List (List ℕ) → Rows → Type 0
AreOfTheirLines lines rows = All (IsOfItsLine lines) (found_in rows)
