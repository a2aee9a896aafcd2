use Rattle.std.proofs.Common.{◌≡◌, ◌<◌, ◌-◌, ap, length, arith, slice_range}
use Rattle.std.proofs.lemmas.Int.{ints}
use Rattle.jp_decimal.specs.Magnitudes.{digits}
use Rattle.jp_decimal.proofs.Sizes.{are_the_digits}
use Rattle.jp_decimal.proofs.Stripped.{is_stripped, ends_behind, value_between, scale_between}
use Rattle.jp_decimal.proofs.measured.Measured.key_size.Goals as goal

pub invariant_of-result : goal.invariant_of-result
invariant_of-result c =
    let x = c.args.self.now in
    let ds = digits x.magnitude in
    let lead = x.lead c.requires in
    let below : x.first < x.end = ends_behind ds x.first x.end x.behind lead in
    let all = is_stripped ds c.in_ok-digits_between.field-0.items x.first x.end c.in_ok-digits_between.ensures below x.within (are_the_digits x.magnitude) x.behind lead (x.last below) in
    record { are_digits = all.are_digits; first = all.first; last = all.last }

pub returns : goal.returns
returns c =
    let x = c.args.self.now in
    let ds = digits x.magnitude in
    let below : x.first < x.end = ends_behind ds x.first x.end x.behind (x.lead c.requires) in
    let s = scale_between x.magnitude x.first x.end below x.within in
    let n : length c.in_ok-digits_between.field-0.items ≡ length (slice_range ds x.first x.end) = ap length c.in_ok-digits_between.ensures in
    record {
      zeros = length ds - x.end;
      is_mantissa = rw c.in_ok-digits_between.ensures (value_between ds x.first x.end below x.within x.zeros x.behind);
      is_scale = omega (arith, ints, s, n, c.power_behind.ensures);
    }
