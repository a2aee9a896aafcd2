-- The pieces are put from the last to the first.
use Rattle.std.proofs.Common.{◌++◌, decimal}
use Rattle.jp_model.specs.Rows.{row_start, tab}
use Rattle.jp_model.specs.Meaning.Paths.{path_text}
use Rattle.jp_nodes.specs.Cursors.{node_of}
use Rattle.jp_rows.proofs.Ends.{put_two, put_last, head_parts}
use Rattle.jp_rows.proofs.short.RowEnd.put_head.Goals as goal

pub returns : goal.returns
returns c =
    let number = decimal c.args.line in
    let path = path_text (node_of c.args.cursor).location in
    let two = put_two path tab _ _ _ c.in_ok-put.ensures c.in_ok-put_path.ensures in
    let three = put_two tab (path ++ tab) _ _ _ two c.in_ok-put-2.ensures in
    let four = put_two number (tab ++ (path ++ tab)) _ _ _ three c.in_ok-put_number.ensures in
    rw (head_parts (row_start c.args.framing) number tab path tab)
    (put_last c.put_start.result (row_start c.args.framing) (number ++ (tab ++ (path ++ tab))) _ _ _ four c.put_start.ensures)
