-- What was put together is the text. Else the start of the row, the path, and the tab follow one another.
use Rattle.jp_model.specs.Rows.{tab}
use Rattle.jp_model.specs.Meaning.Paths.{path_text}
use Rattle.jp_nodes.specs.Cursors.{node_of}
use Rattle.jp_devices.proofs.Chains.{both_received, part_more, part_behind, ends_behind, ends_in_part}
use Rattle.jp_rows.proofs.rows.write_head.Goals as goal

pub returns-in_err-write_path-clause-text : goal.returns-in_err-write_path-clause-text
returns-in_err-write_path-clause-text g c =
    let path = part_behind _ _ _ _ (path_text (node_of c.args.cursor).location) c.in_ok-write_start.ensures.text c.in_err-write_path.ensures.text in
    ends_in_part c.from_residual-in_err-write_path.result _ _ _ c.from_residual-in_err-write_path.ensures.0 (part_more _ _ _ tab path)

pub returns-clause-text : goal.returns-clause-text
returns-clause-text g c =
    let path = both_received _ _ _ _ (path_text (node_of c.args.cursor).location) c.in_ok-write_start.ensures.text c.in_ok-write_path.ensures.text in
    ends_behind c.write_whole-2.result _ _ _ _ tab path c.write_whole-2.ensures.text
