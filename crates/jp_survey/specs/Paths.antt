-- The paths of nodes, in which no index is told (profile).
use Rattle.std.specs.Prelude.{ℕ, List, [], ◌∷◌, Bool, true, false, ◌&&◌, ◌==◌, flat_map, map, codes}
use Rattle.jp_model.specs.Characters.{text_equal}
use Rattle.jp_model.specs.Steps.{Step, name_step, index_step}
use Rattle.jp_model.specs.Json.Tree.{Value, null, boolean, number, string, container, Container, array, object, value_of}
use Rattle.jp_model.specs.Meaning.Nodes.{Node, subtree}
use Rattle.jp_nodes.specs.declared.Kind.{Kind}
use Rattle.jp_nodes.specs.declared.Kind.TheVariants as told
use Rattle.jp_survey.specs.declared.kind.NodeKind.{NodeKind}
use Rattle.jp_survey.specs.declared.kind.NodeKind.TheVariants as kinds

-- The step from a value to some of its children: to the elements of an array, to the member of a name, or to the members of an
-- object that is folded.
pub data Stride : Type 0 where
  element : Stride
  member : (scalars : List ℕ) → Stride
  others : Stride

-- a path
abbrev pub Path : Type 0
Path = List Stride

-- the stride of a step, and those of a location
abbrev pub stride_of : Step → Stride
stride_of (name_step scalars) = member scalars
stride_of (index_step index) = element

abbrev pub strides_of : List Step → Path
strides_of location = map stride_of location

-- equality of strides, and of paths
abbrev pub stride_equal : Stride → Stride → Bool
stride_equal element element = true
stride_equal (member x) (member y) = text_equal x y
stride_equal others others = true
stride_equal _ _ = false

abbrev pub path_equal : Path → Path → Bool
path_equal [] [] = true
path_equal (s ∷ ss) (t ∷ ts) = stride_equal s t && path_equal ss ts
path_equal _ _ = false

-- the kind of a value (RFC 8259, section 3)
abbrev pub container_kind : Container → NodeKind
container_kind array = kinds.Array
container_kind object = kinds.Object

abbrev pub kind_of : Value → NodeKind
kind_of null = kinds.Null
kind_of (boolean b) = kinds.Boolean
kind_of (number m e) = kinds.Number
kind_of (string points) = kinds.String
kind_of (container kind children) = container_kind kind

-- the same by the kinds that a tape tells apart
abbrev pub sort_of : Kind → NodeKind
sort_of told.Null = kinds.Null
sort_of told.False = kinds.Boolean
sort_of told.True = kinds.Boolean
sort_of told.Number = kinds.Number
sort_of told.Text = kinds.String
sort_of told.Array = kinds.Array
sort_of told.Object = kinds.Object

-- the word of a kind
abbrev pub kind_text : NodeKind → List ℕ
kind_text kinds.Null = codes "null"
kind_text kinds.Boolean = codes "boolean"
kind_text kinds.Number = codes "number"
kind_text kinds.String = codes "string"
kind_text kinds.Array = codes "array"
kind_text kinds.Object = codes "object"

-- the place of a kind in the order of kinds
abbrev pub kind_number : NodeKind → ℕ
kind_number kinds.Null = 0
kind_number kinds.Boolean = 1
kind_number kinds.Number = 2
kind_number kinds.String = 3
kind_number kinds.Array = 4
kind_number kinds.Object = 5

abbrev pub same_kind : NodeKind → NodeKind → Bool
same_kind left right = kind_number left == kind_number right

-- What a survey sees of a node.
pub record Mark : Type 0 where
  pub path : Path
  pub kind : NodeKind

abbrev pub mark_of : Node → Mark
mark_of n = record { path = strides_of n.location; kind = kind_of (value_of n.tree) }

-- What of a line is surveyed: nodes of it, each with all that is in it.
abbrev pub Line : Type 0
Line = List Node

-- what a survey sees of a line; of what is in two of its nodes it does twice
abbrev pub marks_of : Line → List Mark
marks_of line = map mark_of (flat_map subtree line)
