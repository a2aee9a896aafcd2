-- Trees whose members stand in the order of their names, scalar by scalar (RFC 9535, section 2.3.5.2.2).
use Rattle.std.specs.Prelude.{ℕ, Bool, true, ◌&&◌, List, [], ◌∷◌}
use Rattle.jp_model.specs.Json.Faults.{names}
use Rattle.jp_model.specs.Json.Tree.{Tree, node, Value, null, boolean, number, string, container, array, object, Children, no_child, child}
use Rattle.jp_model.specs.Meaning.Compare.{text_less}

-- each name is less than the next
abbrev pub are_ascending : List (List ℕ) → Bool
are_ascending [] = true
are_ascending (x ∷ []) = true
are_ascending (x ∷ y ∷ more) = text_less x y && are_ascending (y ∷ more)

abbrev mutual
  -- the names of each object's members ascend
  pub is_ordered : Tree → Bool
  is_ordered (node s v) = is_ordered_value v

  -- the same of a value
  pub is_ordered_value : Value → Bool
  is_ordered_value null = true
  is_ordered_value (boolean b) = true
  is_ordered_value (number m e) = true
  is_ordered_value (string points) = true
  is_ordered_value (container array cs) = are_ordered cs
  is_ordered_value (container object cs) = are_ascending (names cs) && are_ordered cs

  -- the same of each of some children
  pub are_ordered : Children → Bool
  are_ordered no_child = true
  are_ordered (child name t more) = is_ordered t && are_ordered more
