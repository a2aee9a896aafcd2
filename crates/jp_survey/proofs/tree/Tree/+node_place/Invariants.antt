-- A parent stands before its child.
use Rattle.jp_nodes.specs.Cursors.{place_of}
use Rattle.jp_survey.proofs.tree.Tree.+node_place.Given as goal

abbrev pub decreases-node_place : goal.decreases-node_place
decreases-node_place l = place_of l.node
