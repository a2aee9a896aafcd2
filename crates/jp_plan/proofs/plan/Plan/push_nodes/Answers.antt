-- The rows of the nodes that the rest selects from the node of the seek.
use Rattle.std.proofs.Common.{◌≡◌, ◌∙◌, [], ◌∷◌, map, ap}
use Rattle.jp_syntax.specs.View.{segments_view}
use Rattle.jp_store.specs.Collections.{line_status}
use Rattle.jp_plan.specs.Paths.{path_at}
use Rattle.jp_plan.specs.Routes.{steps_or_none}
use Rattle.jp_plan.specs.PlanViews.{plan_of}
use Rattle.jp_model.specs.Meaning.Nodes.{Node}
use Rattle.jp_model.specs.Query.Syntax.{Segments}
use Rattle.jp_model.specs.Meaning.Selecting.{nodes}
use Rattle.jp_nodes.specs.Cursors.{node_of}
use Rattle.jp_lines.specs.Views.{text_of_view, tree_of_view}
use Rattle.jp_plan.specs.ByLine.{found_in}
use Rattle.jp_plan.proofs.ByLine.{node_rows, nodes_of_line, of_view, is_there}
use Rattle.jp_plan.proofs.Starts.{on_ok}
use Rattle.jp_plan.proofs.plan.Plan.push_nodes.Goals as goal

pub push_nodes-requires-clause-nodes : goal.push_nodes-requires-clause-nodes
push_nodes-requires-clause-nodes c = of_view c.in-Some.view c.root.result _ c.found.result.now c.root.ensures.line c.in_ok-run_in.ensures.lines c.found.ensures

pub returns-clause-rows : goal.returns-clause-rows
returns-clause-rows c =
    let p = plan_of c.args.self.now in
    let t = tree_of_view c.in-Some.view in
    let rest = segments_view c.args.route.rest.now in
    let start = node_of c.start-start.result in
    let nodes_are : map node_of c.found.result.now ≡ nodes rest (start ∷ []) t =
    ap (map node_of) c.found.ensures
    ∙ (c.in_ok-run_in.ensures.ok
    ∙ (ap (λ (ss : Segments). nodes ss (start ∷ []) (node_of c.root.result).tree) c.requires.program
    ∙ ap (λ (n : Node). nodes rest (start ∷ []) n.tree) c.root.ensures.node)) in
    on_ok c.push_nodes.result c.push_nodes.ensures.rows
    (λ e. node_rows p.query rest (steps_or_none (path_at p.over.state.paths c.args.route.seek)) c.args.line (line_status c.args.line p.over) t (found_in c.args.rows.now) (found_in c.push_nodes.new.self) c.in-Some.view c.found.result.now start
    c.in-Some.ensures.0 c.requires.route.rest_is c.start-start.ensures.node nodes_are (of_view c.in-Some.view c.root.result _ c.found.result.now c.root.ensures.line c.in_ok-run_in.ensures.lines c.found.ensures) e)

pub returns-clause-lines : goal.returns-clause-lines
returns-clause-lines c =
    let p = plan_of c.args.self.now in
    on_ok c.push_nodes.result c.push_nodes.ensures.rows
    (λ e. nodes_of_line p.over.state.lines c.args.line c.in-Some.view c.found.result.now (found_in c.args.rows.now) (found_in c.push_nodes.new.self) e
    (is_there p.over c.args.line (text_of_view c.in-Some.view) c.requires.line c.in-Some.ensures.1))
