-- One line of a collection, and where the nodes that a query selects stand in it.
use Rattle.std.specs.Prelude.{ℕ, zero, suc, List, [], ◌∷◌, ◌++◌, decimal, flat_map, Option, None, option_map, slice_get}
use Rattle.jp_model.specs.Json.Reader.{status_of}
use Rattle.jp_model.specs.Json.Status.{LineStatus, blank, refused, parsed}
use Rattle.jp_model.specs.Json.Tree.{span}
use Rattle.jp_model.specs.Meaning.Nodes.{Node, root_node}
use Rattle.jp_model.specs.Meaning.Paths.{path_text}
use Rattle.jp_model.specs.Meaning.Selecting.{nodes}
use Rattle.jp_model.specs.Query.Syntax.{Segments}
use Rattle.jp_model.specs.Rows.{line_feed, tab}
use Rattle.jp_store.specs.Collections.{Collection}

-- the line of a number, counted from 1, where there is one
abbrev pub line_at : ℕ → List (List ℕ) → Option (List ℕ)
line_at zero lines = None
line_at (suc before) lines = slice_get lines before

-- a node's mark: the byte of its line at which its text begins and the one after its end, from 0, and its path
abbrev pub mark : Node → List ℕ
mark node = decimal (span node.tree).start ++ tab ++ decimal (span node.tree).end ++ tab ++ path_text node.location ++ line_feed

-- the marks of the nodes that a query selects in a line: none where the line has no value
abbrev pub marks_in : Segments → LineStatus → List ℕ
marks_in query blank = []
marks_in query (refused fault) = []
marks_in query (parsed t) = flat_map mark (nodes query (root_node t ∷ []) t)

-- those of the line of a number
abbrev pub marks_at : Segments → ℕ → Collection → Option (List ℕ)
marks_at query number c = option_map (λ line. marks_in query (status_of c.framing line)) (line_at number c.state.lines)
