-- What a match keeps is right.
use Rattle.std.specs.Prelude.{ℕ, List}
use Rattle.jp_iregexp.specs.declared.node.Node.{Node}
use Rattle.jp_iregexp.specs.declared.tables.Tables.{Tables}
use Rattle.jp_iregexp.specs.Places.{AreAfterEach}
use Rattle.jp_iregexp.specs.Tables.{AreClosed, AreTables}

-- each row that there is
pub record AreRight (text : List ℕ) (root : Node) (t : Tables) : Type 0 where
  pub bodies : AreTables text root t.bodies.rows.items
  pub closed : AreClosed text root t.closed.rows.items
  pub after : AreAfterEach text t.after.rows.items
