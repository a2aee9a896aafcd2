use Rattle.std.proofs.Common.{◌+◌, arith}
use Rattle.jp_lanes.specs.First.{is_other}
use Rattle.jp_lanes.proofs.FirstLanes.{none_of_mask, first_of_mask, first_behind}
use Rattle.jp_lanes.proofs.digits.digits_end.Goals as goal

pub returns-then-others-eq0 : goal.returns-then-others-eq0
returns-then-others-eq0 c =
    first_behind is_other c.args.bytes.now c.args.from (c.args.from + 16) _ (omega arith)
    (none_of_mask is_other c.args.bytes.now c.args.from 16 c.other_lanes-others.result (omega (arith, c.if-bytes-from-lt-QUARTER.false)) c.other_lanes-others.ensures c.if-others-eq0.true) c.digits_end_plainly-then-others-eq0.ensures

pub returns : goal.returns
returns c =
    first_of_mask is_other c.args.bytes.now c.args.from c.args.from 16 c.other_lanes-others.result (omega arith) (omega arith) (omega (arith, c.if-bytes-from-lt-QUARTER.false)) (λ k low high. absurd (omega (arith, low, high))) c.other_lanes-others.ensures c.if-others-eq0.false
