-- The path of a node is that of its parent, and then the step to the node.
use Rattle.std.proofs.Common.{◌∙◌, ap, encode_utf8_all}
use Rattle.jp_model.specs.Meaning.Nodes.{step_to}
use Rattle.jp_model.specs.Meaning.Paths.{step_text, path_text}
use Rattle.jp_nodes.specs.Cursors.{node_of, name_of, index_of}
use Rattle.jp_rows.proofs.Ends.{one_step_more}
use Rattle.jp_rows.proofs.Printed.{path-push}
use Rattle.jp_rows.proofs.short.RowEnd.put_path.Goals as goal

pub loop-parent-preserved : goal.loop-parent-preserved
loop-parent-preserved c =
    let node = c.loop-parent.node in
    let parent = (node_of c.in-Some.parent).location in
    let step = step_to (index_of node) (name_of node) in
    one_step_more (path_text parent) (encode_utf8_all (step_text step)) (path_text (node_of node).location) _ _ _ (ap path_text c.in-Some.ensures.location ∙ path-push parent step) c.in_ok-put_step.ensures c.loop-parent.invariant
