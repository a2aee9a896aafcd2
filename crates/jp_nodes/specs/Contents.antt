-- What strings and numbers say (RFC 8259, sections 6 and 7).
use Rattle.std.specs.Prelude.{ℕ, List, Option, Some, None}
use Rattle.jp_decimal.specs.Values.{Number}
use Rattle.jp_model.specs.Json.Tree.{Value, number, string}

-- the code points of a string
abbrev pub text_in : Value → Option (List ℕ)
text_in (string points) = Some points
text_in _ = None

-- the exact value of a number
abbrev pub number_in : Value → Option Number
number_in (number m e) = Some (record { mantissa = m; scale = e })
number_in _ = None
