-- What kind of value a node is (RFC 8259, section 3).
use Rattle.std.specs.Prelude.{ℕ, ◌+◌, ◌*◌, ◌^◌, ◌%◌, Bool, true, false, nat_eq, if◌then◌else◌}
use Rattle.jp_model.specs.Json.Tree.{Value, null, boolean, number, string, container, Container, array, object}
use Rattle.jp_nodes.specs.declared.Kind.{Kind}
use Rattle.jp_nodes.specs.declared.Kind.TheVariants as kinds

-- of a boolean
abbrev pub boolean_kind : Bool → Kind
boolean_kind false = kinds.False
boolean_kind true = kinds.True

-- of an array or an object
abbrev pub container_kind : Container → Kind
container_kind array = kinds.Array
container_kind object = kinds.Object

-- of any value
abbrev pub kind_of : Value → Kind
kind_of null = kinds.Null
kind_of (boolean b) = boolean_kind b
kind_of (number m e) = kinds.Number
kind_of (string points) = kinds.Text
kind_of (container kind children) = container_kind kind

-- by the halves of the first word of a node
abbrev pub kind_by : (high low : ℕ) → Kind
kind_by high low =
    if nat_eq high 0 then kinds.Null else if nat_eq high 1 then kinds.False else if nat_eq high 2 then kinds.True
    else if nat_eq high 3 then kinds.Number else if nat_eq high 4 then kinds.Text else if nat_eq (low % 2) 0 then kinds.Array else kinds.Object

-- its number in the first word of a node, as the number of a value's kind is
abbrev pub code_of : Kind → ℕ
code_of kinds.Null = 0
code_of kinds.False = 1 * 2 ^ 32
code_of kinds.True = 2 * 2 ^ 32
code_of kinds.Number = 3 * 2 ^ 32
code_of kinds.Text = 4 * 2 ^ 32
code_of kinds.Array = 5 * 2 ^ 32
code_of kinds.Object = 5 * 2 ^ 32 + 1

-- an object, or else an array
abbrev pub container_if : Bool → Container
container_if true = object
container_if false = array
