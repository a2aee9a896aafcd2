-- Where a step leads to no child, the path has no node.
use Rattle.jp_nodes.specs.Cursors.{node_of, root_of}
use Rattle.jp_syntax.specs.SingularPaths.{step_view}
use Rattle.jp_children.proofs.Following.{no_child}
use Rattle.jp_children.proofs.steps.follow.Goals as goal

pub returns-in-None-clause-nodes : goal.returns-in-None-clause-nodes
returns-in-None-clause-nodes c =
    no_child step_view c.args.steps.now c.loop-step.step-index c.step-item.result c.step-item.result (node_of c.loop-step.node) (root_of c.args.start) _
    c.loop-step-test.true c.step-item.is c.in-None.ensures.nodes c.loop-step.invariant.left
