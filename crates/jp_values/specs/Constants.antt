-- A value against a number or a text of the query (RFC 9535, section 2.3.5.2.2).
use Rattle.std.specs.Prelude.{ℕ, List, Bool, true, false, not, ◌||◌, Some}
use Rattle.std.specs.declared.cmp.Ordering.{Ordering}
use Rattle.std.specs.Ordering.{is_lt, is_eq, is_gt}
use Rattle.jp_decimal.specs.Values.{Number}
use Rattle.jp_model.specs.Json.Tree as tree
use Rattle.jp_model.specs.Meaning.Compare.{compared}
use Rattle.jp_model.specs.Query.Syntax.{CompareOp, equal, not_equal, less, less_equal, greater, greater_equal}

-- an operator holds where the first side is so ordered against the second
abbrev pub holds_at : CompareOp → Ordering → Bool
holds_at equal o = is_eq o
holds_at not_equal o = not (is_eq o)
holds_at less o = is_lt o
holds_at less_equal o = is_lt o || is_eq o
holds_at greater o = is_gt o
holds_at greater_equal o = is_gt o || is_eq o

-- an operator holds where the sides are of different kinds: they are not equal, and neither is less
abbrev pub holds_apart : CompareOp → Bool
holds_apart not_equal = true
holds_apart _ = false

-- the comparison of a value with a number
abbrev pub compared_with_number : CompareOp → tree.Value → Number → Bool
compared_with_number op v x = compared op (Some v) (Some (tree.number x.mantissa x.scale))

-- the comparison of a value with a text
abbrev pub compared_with_text : CompareOp → tree.Value → List ℕ → Bool
compared_with_text op v points = compared op (Some v) (Some (tree.string points))
