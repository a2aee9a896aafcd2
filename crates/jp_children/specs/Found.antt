-- Nodes that are found, and the line that they are of.
use Rattle.std.specs.Prelude.{◌≡◌, ℕ, List, [], ◌∷◌, All, Option, Some, None}
use Rattle.jp_model.specs.Meaning.Nodes.{Node}
use Rattle.jp_nodes.specs.declared.cursor.Cursor.{Cursor}
use Rattle.jp_nodes.specs.Cursors.{line_of, node_of}

-- the node of a cursor, where there is one
abbrev pub node_list : Option Cursor → List Node
node_list None = []
node_list (Some c) = node_of c ∷ []

-- the cursors are of this line
abbrev pub AreOf : List ℕ → List Cursor → Type 0
AreOf line list = All (λ c. line_of c ≡ line) list
