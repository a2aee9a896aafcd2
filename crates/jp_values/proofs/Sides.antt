-- Two sides of a comparison that are not two nodes, and not Nothing twice.
use Rattle.std.proofs.Common.{◌≡◌, false, refl, Option, Some, None}
use Rattle.jp_decimal.specs.declared.decimal.Decimal.{Decimal}
use Rattle.jp_decimal.specs.Decimals.{number_of}
use Rattle.jp_model.specs.Json.Tree.{Value, value_of, null, boolean, number, string, container, array, object}
use Rattle.jp_model.specs.Meaning.Compare.{values_equal, both_equal}
use Rattle.jp_model.specs.Meaning.Functions.{literal_value, counted}
use Rattle.jp_model.specs.Query.Syntax.{Literal, null_literal, false_literal, true_literal, number_literal, string_literal}
use Rattle.jp_syntax.specs.View.{literal_view}
use Rattle.jp_nodes.specs.declared.cursor.Cursor.{Cursor}
use Rattle.jp_nodes.specs.Cursors.{node_of}
use Rattle.jp_values.specs.declared.value.Value.{Value as Side}
use Rattle.jp_values.specs.declared.value.Value.TheVariants as sides
use Rattle.jp_values.specs.Scalars.{scalar_in, scalars_equal}
use Rattle.jp_values.specs.Values.{value_view, scalar_side}

-- a value that is no array and no object
abbrev IsLeaf : Value → Type 0
IsLeaf v = scalar_in v ≡ Some v

leaf_left : (v w : Value) → IsLeaf v → scalars_equal (scalar_in v) (scalar_in w) ≡ values_equal v w
leaf_left (container kind xs) w h = absurd (cc)
leaf_left null (container kind ys) h = refl
leaf_left (boolean b) (container kind ys) h = refl
leaf_left (number m e) (container kind ys) h = refl
leaf_left (string points) (container kind ys) h = refl
leaf_left v w h = refl

leaf_right : (v w : Value) → IsLeaf w → scalars_equal (scalar_in v) (scalar_in w) ≡ values_equal v w
leaf_right v (container kind ys) h = absurd (cc)
leaf_right (container array xs) null h = refl
leaf_right (container object xs) null h = refl
leaf_right (container array xs) (boolean b) h = refl
leaf_right (container object xs) (boolean b) h = refl
leaf_right (container array xs) (number m e) h = refl
leaf_right (container object xs) (number m e) h = refl
leaf_right (container array xs) (string points) h = refl
leaf_right (container object xs) (string points) h = refl
leaf_right v w h = refl

none_right : (o : Option Value) → scalars_equal o None ≡ false
none_right None = refl
none_right (Some v) = refl

literal_leaf : (l : Literal) → IsLeaf (literal_value l)
literal_leaf null_literal = refl
literal_leaf false_literal = refl
literal_leaf true_literal = refl
literal_leaf (number_literal x) = refl
literal_leaf (string_literal x) = refl

abbrev read_number : Decimal → Value
read_number x = number (number_of x).mantissa (number_of x).scale

pub sides_equal : (l r : Side) → ((x y : Cursor) → l ≡ sides.Node x → r ≡ sides.Node y → ⊥) → (l ≡ sides.Nothing → r ≡ sides.Nothing → ⊥) →
    scalars_equal (scalar_side (value_view l)) (scalar_side (value_view r)) ≡ both_equal (value_view l) (value_view r)
sides_equal (sides.Node x) (sides.Node y) n m = absurd (n x y refl refl)
sides_equal (sides.Node x) (sides.Constant l) n m = leaf_right _ _ (literal_leaf (literal_view l.now))
sides_equal (sides.Node x) (sides.Number k) n m = leaf_right (value_of (node_of x).tree) (read_number k) refl
sides_equal (sides.Node x) (sides.Count k) n m = leaf_right (value_of (node_of x).tree) (counted k) refl
sides_equal (sides.Node x) sides.Nothing n m = none_right _
sides_equal (sides.Constant l) (sides.Node y) n m = leaf_left _ _ (literal_leaf (literal_view l.now))
sides_equal (sides.Constant l) (sides.Constant k) n m = leaf_left _ _ (literal_leaf (literal_view l.now))
sides_equal (sides.Constant l) (sides.Number k) n m = leaf_right (literal_value (literal_view l.now)) (read_number k) refl
sides_equal (sides.Constant l) (sides.Count k) n m = leaf_right (literal_value (literal_view l.now)) (counted k) refl
sides_equal (sides.Constant l) sides.Nothing n m = none_right _
sides_equal (sides.Number k) (sides.Node y) n m = leaf_left (read_number k) (value_of (node_of y).tree) refl
sides_equal (sides.Number k) (sides.Constant l) n m = leaf_left (read_number k) (literal_value (literal_view l.now)) refl
sides_equal (sides.Number k) (sides.Number j) n m = refl
sides_equal (sides.Number k) (sides.Count j) n m = refl
sides_equal (sides.Number k) sides.Nothing n m = refl
sides_equal (sides.Count k) (sides.Node y) n m = leaf_left (counted k) (value_of (node_of y).tree) refl
sides_equal (sides.Count k) (sides.Constant l) n m = leaf_left (counted k) (literal_value (literal_view l.now)) refl
sides_equal (sides.Count k) (sides.Number j) n m = refl
sides_equal (sides.Count k) (sides.Count j) n m = refl
sides_equal (sides.Count k) sides.Nothing n m = refl
sides_equal sides.Nothing (sides.Node y) n m = refl
sides_equal sides.Nothing (sides.Constant l) n m = refl
sides_equal sides.Nothing (sides.Number k) n m = refl
sides_equal sides.Nothing (sides.Count k) n m = refl
sides_equal sides.Nothing sides.Nothing n m = absurd (m refl refl)
