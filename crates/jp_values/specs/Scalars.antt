-- Values that are no arrays and no objects.
use Rattle.std.specs.Prelude.{ℕ, pos, Bool, false, List, Option, Some, None, chars}
use Rattle.jp_decimal.specs.Decimals.{number_of}
use Rattle.jp_decimal.specs.Values.{Number}
use Rattle.jp_model.specs.Json.Tree as tree
use Rattle.jp_model.specs.Meaning.Compare.{values_equal}
use Rattle.jp_strings.specs.Points.{points_of}
use Rattle.jp_values.specs.declared.number.Number.{Number as AnyNumber}
use Rattle.jp_values.specs.declared.number.Number.TheVariants as numbers
use Rattle.jp_values.specs.declared.text.Text.{Text}
use Rattle.jp_values.specs.declared.text.Text.TheVariants as texts
use Rattle.jp_values.specs.declared.scalar.Scalar.{Scalar}
use Rattle.jp_values.specs.declared.scalar.Scalar.TheVariants as scalars

-- a count is a number with exponent 0
abbrev pub count_number : ℕ → Number
count_number n = record { mantissa = pos n; scale = pos 0 }

-- the exact value
abbrev pub number_view : AnyNumber → Number
number_view (numbers.Spelled x) = number_of x
number_view (numbers.Count n) = count_number n

-- the scalars of a string
abbrev pub text_points : Text → List ℕ
text_points (texts.Body b) = points_of b.bytes.now
text_points (texts.Plain x) = chars x.now

-- the value, where it is one
abbrev pub scalar_view : Scalar → Option tree.Value
scalar_view scalars.Null = Some tree.null
scalar_view (scalars.Boolean b) = Some (tree.boolean b)
scalar_view (scalars.Number x) = Some (tree.number (number_view x).mantissa (number_view x).scale)
scalar_view (scalars.Text x) = Some (tree.string (text_points x))
scalar_view scalars.Other = None

-- a value that is no array and no object
abbrev pub scalar_in : tree.Value → Option tree.Value
scalar_in tree.null = Some tree.null
scalar_in (tree.boolean b) = Some (tree.boolean b)
scalar_in (tree.number m e) = Some (tree.number m e)
scalar_in (tree.string points) = Some (tree.string points)
scalar_in (tree.container kind children) = None

-- both are there, and equal
abbrev pub scalars_equal : Option tree.Value → Option tree.Value → Bool
scalars_equal (Some x) (Some y) = values_equal x y
scalars_equal _ _ = false
