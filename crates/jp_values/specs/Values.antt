-- The sides of a comparison (RFC 9535, sections 2.3.5.1 and 2.4.1).
use Rattle.std.specs.Prelude.{Bool, true, Option, Some, None}
use Rattle.jp_decimal.specs.Decimals.{number_of}
use Rattle.jp_model.specs.Json.Tree as tree
use Rattle.jp_model.specs.Meaning.Functions.{literal_value, counted}
use Rattle.jp_syntax.specs.Sound.{is_sound}
use Rattle.jp_syntax.specs.View.{literal_view}
use Rattle.jp_nodes.specs.Cursors.{node_of}
use Rattle.jp_values.specs.declared.value.Value.{Value}
use Rattle.jp_values.specs.declared.value.Value.TheVariants as values
use Rattle.jp_values.specs.Scalars.{scalar_in}

-- the value of a side, where it has one; None is Nothing
abbrev pub value_view : Value → Option tree.Value
value_view (values.Node c) = Some (tree.value_of (node_of c).tree)
value_view (values.Constant l) = Some (literal_value (literal_view l.now))
value_view (values.Number x) = Some (tree.number (number_of x).mantissa (number_of x).scale)
value_view (values.Count n) = Some (counted n)
value_view values.Nothing = None

-- a side can be read
abbrev pub is_sound_value : Value → Bool
is_sound_value (values.Node c) = true
is_sound_value (values.Constant l) = is_sound (literal_view l.now)
is_sound_value (values.Number x) = true
is_sound_value (values.Count n) = true
is_sound_value values.Nothing = true

-- the side, where it is a value that is no array and no object
abbrev pub scalar_side : Option tree.Value → Option tree.Value
scalar_side None = None
scalar_side (Some v) = scalar_in v
