-- The values of a set.
use Rattle.std.specs.Prelude.{◌≡◌, ℕ, Bool, false, ◌||◌, List, [], ◌∷◌, Some}
use Rattle.jp_canon.specs.Canonical.{value_text}
use Rattle.jp_model.specs.declared.Framing.{Framing}
use Rattle.jp_model.specs.Json.Status.{parsed, HasStatus}
use Rattle.jp_model.specs.Json.Tree.{Tree, Value, value_of}
use Rattle.jp_model.specs.Meaning.Compare.{compared}
use Rattle.jp_model.specs.Meaning.Nodes.{Node, root_node}
use Rattle.jp_model.specs.Query.Syntax.{equal}
use Rattle.jp_laws.specs.Nodes.{IsWithin}
use Rattle.jp_listed.specs.Slots.{has_text}
use Rattle.jp_listed.specs.Texts.{texts_of}
use Rattle.jp_listed.specs.declared.listed.Listed.{Listed}

-- a set has a value: its canonical text, which is one for all that are equal
abbrev pub has_value : Listed → Value → Bool
has_value listed value = has_text (texts_of listed.texts) (value_text value)

-- a set has the values of these canonical texts, and no other
abbrev pub HasLines : List (List ℕ) → Listed → Type 0
HasLines lines listed = (value : Value) → has_value listed value ≡ has_text lines (value_text value)

-- one of some values is equal to another (RFC 9535, section 2.3.5.2.2)
abbrev pub is_among : List Tree → Value → Bool
is_among [] value = false
is_among (t ∷ rest) value = compared equal (Some (value_of t)) (Some value) || is_among rest value

-- the tree of a line
abbrev pub IsOfLine : Tree → Type 0
IsOfLine t = (framing : Framing) × (line : List ℕ) × HasStatus framing line (parsed t)

-- a set has what is equal to one of these values, and nothing else: of all values that stand in lines
abbrev pub HasValues : List Tree → Listed → Type 0
HasValues values listed = (t : Tree) → IsOfLine t → (n : Node) → IsWithin (root_node t) n → has_value listed (value_of n.tree) ≡ is_among values (value_of n.tree)
