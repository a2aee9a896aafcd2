use Rattle.std.proofs.Common.{arith}
use Rattle.std.proofs.lemmas.Bool.{iff_false}
use Rattle.std.proofs.lemmas.Int.{ints}
use Rattle.jp_decimal.proofs.Sizes.{zero_less, greater_zero, less_by_position, greater_by_position, lead_of, above_zero}
use Rattle.jp_decimal.proofs.measured.Measured.compare.Goals as goal

pub returns-else-is_zero-2 : goal.returns-else-is_zero-2
returns-else-is_zero-2 c =
    let x = c.args.self.now.magnitude in
    let y = c.args.other.now.magnitude in
    zero_less x y (c.is_zero.ensures.0 c.if-is_zero.true) (above_zero y (iff_false c.is_zero-then-is_zero.ensures c.if-is_zero-2.false))

pub returns-then-is_zero-3 : goal.returns-then-is_zero-3
returns-then-is_zero-3 c =
    let x = c.args.self.now.magnitude in
    let y = c.args.other.now.magnitude in
    greater_zero x y (above_zero x (iff_false c.is_zero.ensures c.if-is_zero.false)) (c.is_zero-2.ensures.0 c.if-is_zero-3.true)

pub returns-then-power-other_power : goal.returns-then-power-other_power
returns-then-power-other_power c =
    let x = c.args.self.now in
    let y = c.args.other.now in
    less_by_position x.magnitude y.magnitude x.first y.first x.zeros y.zeros (lead_of y (iff_false c.is_zero-2.ensures c.if-is_zero-3.false)) (omega (arith, ints))

pub returns-then-other_power-power : goal.returns-then-other_power-power
returns-then-other_power-power c =
    let x = c.args.self.now in
    let y = c.args.other.now in
    greater_by_position x.magnitude y.magnitude x.first y.first x.zeros y.zeros (lead_of x (iff_false c.is_zero.ensures c.if-is_zero.false)) (omega (arith, ints))
