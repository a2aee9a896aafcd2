-- What a cursor stands for: a node of the tree that its line spells (RFC 9535, section 1.1).
use Rattle.std.specs.Prelude.{ℕ, List, [], ◌∷◌, Option, Some, None}
use Rattle.jp_model.specs.Json.Tree.{Tree, Children, no_child, child, Name}
use Rattle.jp_model.specs.Meaning.Nodes.{Node}
use Rattle.jp_nodes.specs.declared.cursor.Cursor.{Cursor}
use Rattle.jp_nodes.specs.Spots.{Spot, spot_at, nodes_behind}
use Rattle.jp_nodes.specs.Tapes.{spelled}

-- the line's bytes
unfoldable pub line_of : Cursor → List ℕ
line_of c = c.line.now

-- the number of the node, depth first from the root
unfoldable pub place_of : Cursor → ℕ
place_of c = c.place

-- the tree that the line spells
abbrev pub root_of : Cursor → Tree
root_of c = spelled (line_of c)

-- where the node stands
unfoldable pub spot_of : Cursor → Spot
spot_of c = spot_at (spelled c.line.now) c.place

-- the node
abbrev pub node_of : Cursor → Node
node_of c = (spot_of c).node

-- the name that it has in an object
abbrev pub name_of : Cursor → Option Name
name_of c = (spot_of c).name

-- the place of the parent, 0 for the root
abbrev pub up_of : Cursor → ℕ
up_of c = (spot_of c).up

-- how many siblings stand before it
abbrev pub index_of : Cursor → ℕ
index_of c = (spot_of c).index

-- the sibling nodes after it, in order
abbrev pub nodes_after : Cursor → List Node
nodes_after c = nodes_behind (spot_of c)

-- the siblings after it as a tree has them
abbrev pub children_after : Cursor → Children
children_after c = (spot_of c).behind

-- the nodes from a cursor's on
abbrev pub nodes_from : Option Cursor → List Node
nodes_from None = []
nodes_from (Some c) = node_of c ∷ nodes_after c

-- the same as a tree has them
abbrev pub children_from : Option Cursor → Children
children_from None = no_child
children_from (Some c) = child (name_of c) (node_of c).tree (children_after c)
