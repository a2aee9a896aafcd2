-- The row was put together, and is written as a whole. Else what stands before the bytes of the value, those bytes, and the
-- line feed follow one another.
use Rattle.std.proofs.Common.{◌≡◌, subst}
use Rattle.jp_devices.specs.Devices.{Writes}
use Rattle.jp_model.specs.Rows.{line_feed, source}
use Rattle.jp_nodes.specs.Cursors.{line_of, node_of}
use Rattle.jp_devices.proofs.Chains.{both_received, part_more, part_behind, ends_behind, ends_in_part}
use Rattle.jp_rows.proofs.Ends.{alone}
use Rattle.jp_rows.proofs.rows.write_node.Goals as goal

pub returns-in-Some-clause-text : goal.returns-in-Some-clause-text
returns-in-Some-clause-text g c =
    subst (λ t. Writes g.W.Write.contents c.args.out.now c.write_whole.new.out c.write_whole.result t) (alone _ _ _ _ c.as_slice.ensures c.in-Some.ensures c.new-row.ensures) c.write_whole.ensures.text

pub returns-in_err-write_head-clause-text : goal.returns-in_err-write_head-clause-text
returns-in_err-write_head-clause-text g c =
    let value = part_more _ _ _ (source (line_of c.args.cursor) (node_of c.args.cursor).tree) c.in_err-write_head.ensures.text in
    ends_in_part c.from_residual.result _ _ _ c.from_residual.ensures.0 (part_more _ _ _ line_feed value)

pub returns-in_err-write_whole-clause-text : goal.returns-in_err-write_whole-clause-text
returns-in_err-write_whole-clause-text g c =
    let value : c.source.result.now ≡ source (line_of c.args.cursor) (node_of c.args.cursor).tree = c.source.ensures in
    let part = rw value at (part_behind _ _ _ _ _ c.in_ok-write_head.ensures.text c.in_err-write_whole.ensures.text) in
    ends_in_part c.from_residual-in_err-write_whole.result _ _ _ c.from_residual-in_err-write_whole.ensures.0 (part_more _ _ _ line_feed part)

pub returns-clause-text : goal.returns-clause-text
returns-clause-text g c =
    let value : c.source.result.now ≡ source (line_of c.args.cursor) (node_of c.args.cursor).tree = c.source.ensures in
    let written = rw value at (both_received _ _ _ _ _ c.in_ok-write_head.ensures.text c.in_ok-write_whole.ensures.text) in
    ends_behind c.write_whole-3.result _ _ _ _ line_feed written c.write_whole-3.ensures.text
