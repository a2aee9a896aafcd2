use Rattle.std.proofs.Common.{◌≡◌, ◌∙◌, ap, subst, decimal, List, ℕ}
use Rattle.jp_decimal.specs.Decimals.{number_of}
use Rattle.jp_decimal.specs.Values.{Number, order}
use Rattle.jp_decimal.specs.Reading.{ReadsAs, RefusesNumber}
use Rattle.jp_values.proofs.Numerals.{count_is}
use Rattle.jp_values.proofs.number.compare_with_count.Goals as goal

pub returns-in-Ok : goal.returns-in-Ok
returns-in-Ok c =
    let count = count_is c.args.count c.ranges.count.fits in
    let digits : c.as_bytes.result.now ≡ decimal c.args.count = c.as_bytes.ensures.value ∙ c.format.ensures.text in
    let read : ReadsAs (decimal c.args.count) (number_of c.in-Ok.count) = subst (λ (b : List ℕ). ReadsAs b (number_of c.in-Ok.count)) digits c.in-Ok.ensures in
    c.compare.ensures ∙ ap (λ (x : Number). order (number_of c.args.number.now) x) (count.value (number_of c.in-Ok.count) read)

pub returns-in-Err : goal.returns-in-Err
returns-in-Err c =
    let count = count_is c.args.count c.ranges.count.fits in
    let digits : c.as_bytes.result.now ≡ decimal c.args.count = c.as_bytes.ensures.value ∙ c.format.ensures.text in
    absurd (count.read c.in-Err.field-0 (subst (λ (b : List ℕ). RefusesNumber b c.in-Err.field-0) digits c.in-Err.ensures))
