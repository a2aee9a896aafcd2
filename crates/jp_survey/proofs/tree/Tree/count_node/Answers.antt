-- The place of the node is found, and it is counted there.
use Rattle.std.proofs.Common.{[]}
use Rattle.jp_nodes.specs.Cursors.{node_of}
use Rattle.jp_survey.proofs.Walks.{node_comes}
use Rattle.jp_survey.proofs.tree.Tree.count_node.Goals as goal

pub returns-clause-begun : goal.returns-clause-begun
returns-clause-begun c fold lines line h =
    let ok = c.in_ok-place.ensures in
    c.count_nodes.ensures.begun fold lines line
    (node_comes fold lines line (node_of c.args.node).location c.args.self.now c.node_place.new.self c.requires ok.tree ok.grows (λ seen there was. ok.justified fold seen [] there was) h)
