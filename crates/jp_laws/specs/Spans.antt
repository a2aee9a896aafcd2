-- A tree that stands earlier in its line, and children that stand in order.
use Rattle.std.specs.Prelude.{ℕ, ◌-◌, ◌<◌, ◌≤◌, Option, Some, None}
use Rattle.jp_model.specs.declared.Span.{Span}
use Rattle.jp_model.specs.Json.Tree.{Tree, node, Value, null, boolean, number, string, container, Children, no_child, child, Name, span}

-- a span that stands a given number of bytes earlier
abbrev pub earlier_span : ℕ → Span → Span
earlier_span k s = record { start = s.start - k; end = s.end - k }

-- a name whose body stands earlier
abbrev pub earlier_name : ℕ → Option Name → Option Name
earlier_name k None = None
earlier_name k (Some name) = Some (record { body = earlier_span k name.body; points = name.points })

abbrev mutual
  -- the same tree, a given number of bytes earlier
  pub earlier : ℕ → Tree → Tree
  earlier k (node s v) = node (earlier_span k s) (earlier_value k v)

  -- the same value
  pub earlier_value : ℕ → Value → Value
  earlier_value k null = null
  earlier_value k (boolean b) = boolean b
  earlier_value k (number m e) = number m e
  earlier_value k (string points) = string points
  earlier_value k (container kind cs) = container kind (earlier_children k cs)

  -- the same children
  pub earlier_children : ℕ → Children → Children
  earlier_children k no_child = no_child
  earlier_children k (child name t more) = child (earlier_name k name) (earlier k t) (earlier_children k more)

-- Some children stand between two positions, each of at least one byte, and each after those before it.
abbrev pub StandInOrder : ℕ → ℕ → Children → Type 0
StandInOrder from to no_child = from ≤ to
StandInOrder from to (child name t more) = (from ≤ (span t).start) × ((span t).start < (span t).end) × StandInOrder (span t).end to more
