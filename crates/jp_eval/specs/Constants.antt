-- What the literals of a compiled query were read as.
use Rattle.std.specs.Prelude.{Bool, true, false, ◌&&◌, Option, Some, None}
use Rattle.std.specs.Ordering.{int_eq}
use Rattle.jp_decimal.specs.Values.{Number}
use Rattle.jp_model.specs.Json.Numbers.{numeral_of, mantissa, scale}
use Rattle.jp_model.specs.Query.Syntax.{Literal, number_literal}

-- if it was read, it is a number, and this is its exact value
abbrev pub is_read_as : Option Number → Literal → Bool
is_read_as None l = true
is_read_as (Some n) (number_literal x) = int_eq n.mantissa (mantissa (numeral_of x)) && int_eq n.scale (scale (numeral_of x))
is_read_as (Some n) l = false
