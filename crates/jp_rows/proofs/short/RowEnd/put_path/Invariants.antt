-- What is put so far is what the path has beyond that of a node on the way up.
use Rattle.std.proofs.Common.{◌≡◌, ◌++◌}
use Rattle.jp_model.specs.Meaning.Paths.{path_text}
use Rattle.jp_nodes.specs.Cursors.{node_of, place_of}
use Rattle.jp_rows.proofs.short.RowEnd.put_path.Given as goal

abbrev pub invariant-loop-parent : goal.invariant-loop-parent
invariant-loop-parent l = path_text (node_of l.node).location ++ l.self ≡ path_text (node_of l.cursor).location ++ l.fn.self

abbrev pub decreases-loop-parent : goal.decreases-loop-parent
decreases-loop-parent l = place_of l.node
