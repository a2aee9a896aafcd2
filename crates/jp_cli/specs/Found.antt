-- The rows that are found.
use Rattle.std.specs.Prelude.{ℕ, Bool, true, false, List}
use Rattle.jp_model.specs.declared.Framing.{Framing}
use Rattle.jp_model.specs.Rows as rows
use Rattle.jp_lines.specs.Views.{text_of_view}
use Rattle.jp_lines.specs.declared.view.LineView.{LineView}
use Rattle.jp_plan.specs.ByLine.{Found, at_place, of_fault, node_at}

-- the text of the row of the node at a place, on the line of that number
abbrev pub place_text : Framing → ℕ → LineView → ℕ → List ℕ
place_text framing line view place = rows.node_text framing line (text_of_view view) (node_at view place)

-- the text of a row that was found
abbrev pub found_text : Framing → Found → List ℕ
found_text framing (at_place line view place) = place_text framing line view place
found_text framing (of_fault line fault) = rows.refusal_text framing line fault

-- the row is of a node
abbrev pub is_found_node : Found → Bool
is_found_node (at_place line view place) = true
is_found_node (of_fault line fault) = false
