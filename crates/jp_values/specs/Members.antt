-- Members by name, and the siblings after them (RFC 8259, section 4).
use Rattle.std.specs.Prelude.{◌≡◌, ℕ, Bool, false, List, Option, Some, None, if◌then◌else◌}
use Rattle.jp_model.specs.Characters.{text_equal}
use Rattle.jp_model.specs.Json.Tree.{Value, Children, no_child, child, node, value_of, Name, joined}
use Rattle.jp_nodes.specs.declared.cursor.Cursor.{Cursor}
use Rattle.jp_nodes.specs.Cursors.{node_of}

-- a member has this name (RFC 8259, section 8.3)
abbrev pub has_name : List ℕ → Option Name → Bool
has_name x None = false
has_name x (Some name) = text_equal x name.points

-- the value of the first member of this name
abbrev pub member_named : List ℕ → Children → Option Value
member_named x no_child = None
member_named x (child None t more) = member_named x more
member_named x (child (Some name) (node s v) more) = if text_equal x name.points then Some v else member_named x more

-- the last of some children are these
abbrev pub EndsWith : Children → Children → Type 0
EndsWith whole rest = (before : Children) × (joined before rest ≡ whole)

-- the value of a node that was found
abbrev pub found_value : Option Cursor → Option Value
found_value None = None
found_value (Some c) = Some (value_of (node_of c).tree)
