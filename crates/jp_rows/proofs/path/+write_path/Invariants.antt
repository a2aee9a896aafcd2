-- A parent stands before its child.
use Rattle.jp_nodes.specs.Cursors.{place_of}
use Rattle.jp_rows.proofs.path.+write_path.Given as goal

abbrev pub decreases-write_path : goal.decreases-write_path
decreases-write_path g l = place_of l.cursor
