use Rattle.std.proofs.Common.{◌<◌, ◌+◌, arith}
use Rattle.jp_model.specs.Json.Places.{Has}
use Rattle.jp_tape.proofs.PlainNumbers.{fraction_read}
use Rattle.jp_tape.proofs.builder.numbers.fraction_end.Goals as goal

pub returns : goal.returns
returns c =
    let e = c.digits_end-end.ensures in
    let some : c.args.from + 1 < c.digits_end-end.result = omega arith in
    let point : Has c.args.line.now c.args.from 0x2E = c.is_at.ensures.yes c.if-not-is_at.false in
    fraction_read c.args.line.now c.args.from c.digits_end-end.result point some e.within e.digits
