-- What the laws of comparisons ask of values, and say of tests.
use Rattle.std.specs.Prelude.{Bool, true, false, not, ◌&&◌, ◌||◌, Option, Some, None}
use Rattle.jp_model.specs.Json.Faults.{value_has_duplicate}
use Rattle.jp_model.specs.Json.Tree.{node, Value, null, boolean, number, string, container, array, object, Children, no_child, child}

-- one of three tests holds, and the other two do not
abbrev pub exactly_one : Bool → Bool → Bool → Bool
exactly_one a b c = (a && (not b && not c)) || ((not a && (b && not c)) || (not a && (not b && c)))

-- each of some children has a name
abbrev pub are_members : Children → Bool
are_members no_child = true
are_members (child None t more) = false
are_members (child (Some name) t more) = are_members more

-- the children of each object have names, as the grammar wants it (RFC 8259, section 4)
abbrev mutual
  pub has_members : Value → Bool
  has_members null = true
  has_members (boolean b) = true
  has_members (number m e) = true
  has_members (string points) = true
  has_members (container array cs) = each_has_members cs
  has_members (container object cs) = are_members cs && each_has_members cs

  -- the same below some children
  pub each_has_members : Children → Bool
  each_has_members no_child = true
  each_has_members (child name (node s v) more) = has_members v && each_has_members more

-- a side of a comparison is Nothing, or a value without equal names whose members have names
abbrev pub is_plain : Option Value → Bool
is_plain None = true
is_plain (Some v) = not (value_has_duplicate v) && has_members v
