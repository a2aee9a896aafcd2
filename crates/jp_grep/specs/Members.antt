-- The members of the names that the queries of a table begin with.
use Rattle.std.specs.Prelude.{◌≡◌, ℕ, ◌<◌, List, [], get_or, length, IfSome, Option, None}
use Rattle.jp_children.specs.Found.{node_list}
use Rattle.jp_lines.specs.Views.{text_of_view}
use Rattle.jp_model.specs.Meaning.Nodes.{Node, root_node}
use Rattle.jp_model.specs.Meaning.Slices.{named}
use Rattle.jp_model.specs.Query.Syntax.{Origin, root, current}
use Rattle.jp_nodes.specs.Cursors.{line_of, node_of}
use Rattle.jp_nodes.specs.declared.cursor.Cursor.{Cursor}
use Rattle.jp_syntax.specs.View.{origin_view}
use Rattle.jp_grep.specs.Asked.{asked_tree, first_name}
use Rattle.jp_grep.specs.declared.asked.AskedNode.{AskedNode}
use Rattle.jp_grep.specs.declared.asked.AskedQuery.{AskedQuery}
use Rattle.jp_grep.specs.declared.first_names.Members.{Members}

-- those of the queries that begin there
abbrev pub found_by : Origin → Members → List (Option Cursor)
found_by root members = members.of_root.items
found_by current members = members.of_current.items

-- the node that a query begins at
abbrev pub start_node : Origin → AskedNode → Node
start_node root asked = root_node (asked_tree asked)
start_node current asked = node_of asked.node

-- if something was found for a name, it is the member of that name, of a node of this line
abbrev pub IsMember : List ℕ → Node → (line : List ℕ) → List (Option Cursor) → (index : ℕ) → Type 0
IsMember name node line found index = index < length found
    → (node_list (get_or found index None) ≡ named name node) × IfSome (get_or found index None) (λ c. line_of c ≡ line)

-- the same for each name
abbrev pub AreMembers : List (List ℕ) → Node → (line : List ℕ) → List (Option Cursor) → Type 0
AreMembers names node line found = (index : ℕ) → IsMember (get_or names index []) node line found index

-- what was found for the names of queries, for those that begin at the root and for those that begin at the node
abbrev pub AreFound : List (List ℕ) → AskedNode → Members → Type 0
AreFound names asked members = (origin : Origin) → AreMembers names (start_node origin asked) (text_of_view asked.line) (found_by origin members)

-- what was found for one query
abbrev pub IsFoundOf : AskedQuery → AskedNode → Members → (index : ℕ) → Type 0
IsFoundOf query asked members index = IsMember (first_name query) (start_node (origin_view query.origin) asked) (text_of_view asked.line) (found_by (origin_view query.origin) members) index
