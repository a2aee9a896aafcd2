use Rattle.std.proofs.Common.{◌∙◌, arith}
use lib.Bits.{or_lt}
use Rattle.jp_masks.proofs.Bits.{says_xor}
use Rattle.jp_masks.proofs.BlockWords.{marks_say, escaped_next, begin_next, inside_next, known_next}
use Rattle.jp_masks.proofs.block.scan_block.Goals as goal

pub returns-clause-marks : goal.returns-clause-marks
returns-clause-marks c =
    let k = c.classify-classes.result in
    let says = c.classify-classes.ensures in
    let ends = c.ends_of-ends.ensures in
    marks_say c.args.framing c.args.bytes.now c.args.first k.backslash k.quote k.structural k.white c.ends_of-ends.result c.escaped_bytes-escaped.result (omega arith)
    says.backslash says.quote says.structural says.white ends c.escaped_bytes-escaped.ensures
    _ c.restart-inside_after.result (says_xor _ _ _ _ c.prefix_xor.ensures c.spread.ensures) c.restart-inside_after.ensures
    c.carry_in-inside.result c.carry_in-may_begin.result (omega arith) (or_lt 64 k.white k.quote (omega arith) (omega arith)) c.carry_in-inside.ensures c.carry_in-may_begin.ensures

pub returns-clause-carry : goal.returns-clause-carry
returns-clause-carry c =
    let k = c.classify-classes.result in
    let says = c.classify-classes.ensures in
    let ends = c.ends_of-ends.ensures in
    known_next c.args.framing c.args.bytes.now c.args.first 63 _ _ _
    (c.top_bit.ensures ∙ escaped_next c.args.framing c.args.bytes.now c.args.first k.backslash k.quote k.structural k.white c.ends_of-ends.result c.escaped_bytes-escaped.result (omega arith)
    says.backslash says.quote says.structural says.white ends c.escaped_bytes-escaped.ensures 63 (omega arith))
    (c.top_bit-2.ensures ∙ inside_next c.args.framing c.args.bytes.now c.args.first k.backslash k.quote k.structural k.white c.ends_of-ends.result c.escaped_bytes-escaped.result (omega arith)
    says.backslash says.quote says.structural says.white ends c.escaped_bytes-escaped.ensures
    _ c.restart-inside_after.result (says_xor _ _ _ _ c.prefix_xor.ensures c.spread.ensures) c.restart-inside_after.ensures 63 (omega arith))
    (c.top_bit-3.ensures ∙ begin_next c.args.framing c.args.bytes.now c.args.first k.backslash k.quote k.structural k.white c.ends_of-ends.result c.escaped_bytes-escaped.result (omega arith)
    says.backslash says.quote says.structural says.white ends c.escaped_bytes-escaped.ensures 63 (omega arith))
