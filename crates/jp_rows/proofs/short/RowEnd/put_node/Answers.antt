-- The line feed is put, then the bytes of the node before it, and then what stands before those.
use Rattle.std.proofs.Common.{◌≡◌, ◌++◌, ◌∙◌, List, ℕ, decimal, ap, ap₂}
use Rattle.jp_model.specs.declared.Span.{Span}
use Rattle.jp_model.specs.Json.Places.{bytes_between}
use Rattle.jp_model.specs.Meaning.Paths.{path_text}
use Rattle.jp_model.specs.Rows.{row_start, tab, source, line_feed}
use Rattle.jp_nodes.specs.Cursors.{line_of, node_of}
use Rattle.jp_rows.proofs.Ends.{put_two, put_last, node_parts}
use Rattle.jp_rows.proofs.short.RowEnd.put_node.Goals as goal

pub returns : goal.returns
returns c =
    let node = node_of c.args.cursor in
    let value = source (line_of c.args.cursor) node.tree in
    let head = row_start c.args.framing ++ decimal c.args.line ++ tab ++ path_text node.location ++ tab in
    let is : bytes_between c.line.result.now c.span.result.start c.span.result.end ≡ value = ap₂ (λ (l : List ℕ) (s : Span). bytes_between l s.start s.end) c.line.ensures.bytes c.span.ensures.value in
    let two = put_two value line_feed _ _ _ c.in_ok-put.ensures (c.in_ok-put_part.ensures ∙ ap (λ l. l ++ c.put.new.self) is) in
    rw (node_parts head value line_feed) (put_last c.put_head.result head (value ++ line_feed) _ _ _ two c.put_head.ensures)
