use Rattle.std.proofs.Common.{true, false, refl, sym, subst}
use Rattle.jp_decimal.specs.Reading.{ReadsAs}
use Rattle.jp_decimal.proofs.Signs.{number_of}
use Rattle.jp_decimal.specs.declared.parts.Magnitude.{Magnitude}
use Rattle.jp_decimal.proofs.Spelled.{signed_is, minus_refused, plain_refused}
use Rattle.jp_decimal.proofs.decimal.Decimal.read.Goals as goal

pub returns-in-Ok : goal.returns-in-Ok
returns-in-Ok c =
    subst (λ (m : Magnitude). ReadsAs c.args.bytes.now (number_of true m)) (sym c.of.ensures)
    (signed_is true c.args.bytes.now c.in-Some.rest.now c.in-Ok.magnitude c.in-Some.ensures c.in-Ok.ensures)

pub returns-in-Err : goal.returns-in-Err
returns-in-Err c = minus_refused c.in-Err.fault c.args.bytes.now c.in-Some.rest.now c.in-Some.ensures c.in-Err.ensures

pub returns-in-Ok-read_magnitude : goal.returns-in-Ok-read_magnitude
returns-in-Ok-read_magnitude c =
    subst (λ (m : Magnitude). ReadsAs c.args.bytes.now (number_of false m)) (sym c.of-in-Ok-read_magnitude.ensures)
    (signed_is false c.args.bytes.now c.args.bytes.now c.in-Ok-read_magnitude.magnitude refl c.in-Ok-read_magnitude.ensures)

pub returns-in-Err-read_magnitude : goal.returns-in-Err-read_magnitude
returns-in-Err-read_magnitude c = plain_refused c.in-Err-read_magnitude.fault c.args.bytes.now c.in_default.ensures c.in-Err-read_magnitude.ensures
