-- A plain name stands as it is between the brackets and the quotes.
use Rattle.std.proofs.Common.{◌++◌, codes, sym}
use Rattle.jp_model.specs.Json.Places.{bytes_between}
use Rattle.jp_strings.specs.Points.{points_of}
use Rattle.jp_rows.proofs.Ends.{put_two, put_last}
use Rattle.jp_rows.proofs.Plain.{plain_name}
use Rattle.jp_rows.proofs.Printed.{named}
use Rattle.jp_rows.proofs.short.RowEnd.put_name_step.Goals as goal

pub returns : goal.returns
returns c =
    let name = bytes_between c.args.line.now c.args.name.start c.args.name.end in
    let two = put_two name (codes "']") _ _ _ c.in_ok-put.ensures c.in_ok-put_part.ensures in
    rw (named (points_of name), plain_name name c.requires.text (sym c.if-not-needs_no_escape.ensures))
    (put_last c.put-2.result (codes "['") (name ++ codes "']") _ _ _ two c.put-2.ensures)
