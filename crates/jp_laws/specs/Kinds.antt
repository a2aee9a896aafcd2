-- The six kinds of values (RFC 8259, section 3).
use Rattle.jp_model.specs.Json.Tree.{Value, null, boolean, number, string, container, array, object}

pub data Kind : Type 0 where
  of_null : Kind
  of_boolean : Kind
  of_number : Kind
  of_string : Kind
  of_array : Kind
  of_object : Kind

-- the kind of a value
abbrev pub kind : Value → Kind
kind null = of_null
kind (boolean b) = of_boolean
kind (number m e) = of_number
kind (string points) = of_string
kind (container array cs) = of_array
kind (container object cs) = of_object
