-- The steps that are left lead from the node to those of all steps from the root.
use Rattle.std.proofs.Common.{◌≡◌, [], ◌∷◌, map, drop}
use Rattle.jp_model.specs.Meaning.Selecting.{nodes}
use Rattle.jp_model.specs.Plans.{steps_nodes}
use Rattle.jp_model.specs.Query.Singular.{steps_query}
use Rattle.jp_syntax.specs.SingularPaths.{step_view}
use Rattle.jp_nodes.specs.Cursors.{line_of, node_of, root_of}
use Rattle.jp_children.proofs.steps.follow.Given as goal

abbrev pub invariant-loop-step : goal.invariant-loop-step
invariant-loop-step l = record {
  left : nodes (steps_query (map step_view (drop l.step-index l.steps))) (node_of l.node ∷ []) (root_of l.start) ≡ steps_nodes (map step_view l.steps) (root_of l.start);
  line : line_of l.node ≡ line_of l.start;
}
