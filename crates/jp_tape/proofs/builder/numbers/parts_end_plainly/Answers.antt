use Rattle.std.proofs.Common.{◌∙◌, sym}
use Rattle.jp_tape.proofs.builder.numbers.parts_end_plainly.Goals as goal

pub returns : goal.returns
returns c =
    let int = c.in-Some.ensures.found in
    let fraction = c.in-Some-fraction_end.ensures in
    record {
      point = c.in-Some.point;
      int = int.0;
      fraction = fraction.0;
      is_int = int.1;
      some = c.in-Some.ensures.some;
      int_read = int.2;
      are_digits = fraction.1;
      fraction_read = fraction.2;
      ended = sym c.is_number_at.ensures ∙ c.if-is_number_at.false;
    }
