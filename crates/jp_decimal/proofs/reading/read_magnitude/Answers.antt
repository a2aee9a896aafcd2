use Rattle.std.proofs.Common.{◌∙◌, ◌++◌, refl, false, ap, arith, length, length-append, ℕ}
use Rattle.std.proofs.lemmas.Int.{ints}
use Rattle.jp_model.proofs.Reader.Numbers.{digits_whole}
use Rattle.jp_decimal.proofs.Spelled.{unsigned_refused}
use Rattle.jp_decimal.proofs.reading.read_magnitude.Goals as goal

pub invariant_of-result-clause-int_digits : goal.invariant_of-result-clause-int_digits
invariant_of-result-clause-int_digits c = digits_whole c.split_digits.result.0.now c.split_digits.ensures.digits

pub invariant_of-result-clause-fraction_digits : goal.invariant_of-result-clause-fraction_digits
invariant_of-result-clause-fraction_digits c = digits_whole c.in-Ok.fraction.now c.in-Ok.ensures.read.spells.digits

pub invariant_of-result-clause-room : goal.invariant_of-result-clause-room
invariant_of-result-clause-room c =
    let j = ap length c.split_digits.ensures.joined in
    omega (arith, j, length-append {A = ℕ}, c.in-Ok.ensures.shorter)

pub returns-in-Ok : goal.returns-in-Ok
returns-in-Ok c =
    let b = c.in-Ok.ensures.read in
    record {
      numeral = record { negative = false; int = c.split_digits.result.0.now; fraction = c.in-Ok.fraction.now; exponent = b.exponent };
      spells = record { correct = record { int = c.is_int.ensures.0 c.if-not-is_int.false; fraction = b.spells.digits; exponent = b.spells.correct }; spelled = ap (λ xs. c.split_digits.result.0.now ++ xs) b.spells.spelled ∙ c.split_digits.ensures.joined };
      short = b.short;
      int = refl;
      fraction = refl;
      exponent = b.is ∙ omega (arith, ints, c.in-Ok.ensures.low, c.in-Ok.ensures.high);
    }

pub returns-in-Err : goal.returns-in-Err
returns-in-Err c =
    unsigned_refused c.in-Err.fault c.args.text.now c.split_digits.result.0.now c.split_digits.result.1.now c.split_digits.ensures.joined c.split_digits.ensures.digits c.split_digits.ensures.end (c.is_int.ensures.0 c.if-not-is_int.false) c.in-Err.ensures.read
