-- Members in the order of their names (RFC 8259, section 4).
use Rattle.std.specs.Prelude.{◌≡◌, ℕ, ◌<◌, List, length, Some, Contains, IsSorted}
use Rattle.std.specs.declared.cmp.Ordering.{Ordering}
use Rattle.std.specs.Ordering.{nat_cmp}
use Rattle.std.specs.Cmp.{IsTotalOrder, on_total}
use Rattle.std.specs.Cmp.Lexicographic.{slice_cmp, nat_list_cmp_total}
use Rattle.jp_model.specs.Json.Tree.{Value, Children, value_of}
use Rattle.jp_strings.specs.Points.{points_of}
use Rattle.jp_nodes.specs.Cursors.{node_of, children_after}
use Rattle.jp_values.specs.declared.member.Member.{Member}
use Rattle.jp_values.specs.Members.{member_named, EndsWith}

-- the scalars of the name
abbrev pub points : Member → List ℕ
points m = points_of m.name.now

-- members are ordered by the scalars of their names
abbrev pub by_name : Member → Member → Ordering
by_name a b = slice_cmp nat_cmp (points a) (points b)

-- that order is total
pub names_total : IsTotalOrder by_name
names_total = on_total points nat_list_cmp_total

-- these are the members of an object that have a name, in some order
pub record AreMembers (children : Children) (members : List Member) : Type 0 where
  -- each is the member of its name
  pub found : (m : Member) → Contains members m → member_named (points m) children ≡ Some (value_of (node_of m.node).tree)
  pub behind : (m : Member) → Contains members m → EndsWith children (children_after m.node)
  -- a name that has a value is the name of one
  pub complete : (x : List ℕ) (v : Value) → member_named x children ≡ Some v → (m : Member) × Contains members m × (points m ≡ x)

-- they stand in the order of their names
pub record AreByName (children : Children) (members : List Member) : Type 0 where
  pub all : AreMembers children members
  pub sorted : IsSorted by_name members

-- what was kept of an object: nothing yet, or its members in the order of their names
abbrev pub AreKept : Children → List Member → Type 0
AreKept children members = 0 < length members → AreByName children members
