use Rattle.std.proofs.Common.{◌≤◌, arith, length, refl}
use Rattle.jp_decimal.specs.Magnitudes.{digits}
use Rattle.jp_decimal.specs.Decimals.{number_of}
use Rattle.jp_decimal.proofs.Sizes.{value_of_zeros}
use Rattle.jp_decimal.proofs.Stripped.{signed_zero, with_sign}
use Rattle.jp_decimal.proofs.decimal.Decimal.canonical.Goals as goal

pub returns-then-self-count : goal.returns-then-self-count
returns-then-self-count c =
    let x = c.args.self.now.size in
    let w : length (digits x.magnitude) ≤ x.first = omega arith in
    signed_zero _ _ (value_of_zeros (digits x.magnitude) x.first x.zeros w)

pub returns-then-self : goal.returns-then-self
returns-then-self c = with_sign _ _ _ c.args.self.now.size.magnitude (number_of c.args.self.now) c.if-self.true refl c.in_ok-size.ensures

pub returns-else-self : goal.returns-else-self
returns-else-self c = with_sign _ _ _ c.args.self.now.size.magnitude (number_of c.args.self.now) c.if-self.false refl c.in_ok-size.ensures
