-- The digits of an index stand between the brackets.
use Rattle.std.proofs.Common.{◌++◌, codes, decimal, pos, arith}
use Rattle.std.proofs.lemmas.Fmt.{IsAscii-decimal}
use Rattle.jp_rows.proofs.Ends.{put_two, put_last}
use Rattle.jp_rows.proofs.Printed.{indexed}
use Rattle.jp_rows.proofs.short.RowEnd.put_index_step.Goals as goal

pub returns : goal.returns
returns c =
    let index = c.args.index in
    let two = put_two (decimal index) (codes "]") _ _ _ c.in_ok-put.ensures c.in_ok-put_number.ensures in
    rw (indexed (pos index) (IsAscii-decimal index (omega arith)))
    (put_last c.put-2.result (codes "[") (decimal index ++ codes "]") _ _ _ two c.put-2.ensures)
