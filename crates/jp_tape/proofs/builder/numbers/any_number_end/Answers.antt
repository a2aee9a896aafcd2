use Rattle.std.proofs.Common.{◌≡◌, subst, sym}
use Rattle.jp_tape.proofs.Ahead.{number_solid}
use Rattle.jp_tape.proofs.NumberEnds.{number_ends, number_there}
use Rattle.jp_model.specs.Json.Places.{Reads}
use Rattle.jp_model.specs.Json.Numbers.{numeral_bytes}
use Rattle.jp_tape.proofs.builder.numbers.any_number_end.Goals as goal

pub returns-in-Ok-clause-solid : goal.returns-in-Ok-clause-solid
returns-in-Ok-clause-solid c = number_solid c.args.line.now c.args.from c.number_bytes_end-end.result c.number_bytes_end-end.ensures.inside

pub returns-in-Err-Exponent-clause-solid : goal.returns-in-Err-Exponent-clause-solid
returns-in-Err-Exponent-clause-solid c = number_solid c.args.line.now c.args.from c.number_bytes_end-end.result c.number_bytes_end-end.ensures.inside

pub returns-in-Ok-clause-found : goal.returns-in-Ok-clause-found
returns-in-Ok-clause-found c =
    let e = c.number_bytes_end-end.ensures in
    let t = c.in-Ok.ensures in
    number_there c.args.line.now c.args.from c.number_bytes_end-end.result _ t.numeral e.order e.within e.ended t.spells.correct t.spells.spelled t.short

pub returns-in-Err-Exponent-clause-found : goal.returns-in-Err-Exponent-clause-found
returns-in-Err-Exponent-clause-found c =
    let e = c.number_bytes_end-end.ensures in
    let t = rw c.in-Err-Exponent.field-0-is at c.in-Err-Exponent.ensures in
    number_there c.args.line.now c.args.from c.number_bytes_end-end.result _ t.numeral e.order e.within e.ended t.spells.correct t.spells.spelled t.long

pub returns-in-Err-Shape-clause-none : goal.returns-in-Err-Shape-clause-none
returns-in-Err-Shape-clause-none c to m f s d =
    let e = c.number_bytes_end-end.ensures in
    let t = rw c.in-Err-Shape.field-0-is at c.in-Err-Shape.ensures in
    let same : to ≡ c.number_bytes_end-end.result = number_ends c.args.line.now c.args.from c.number_bytes_end-end.result to m f e.order e.inside e.ended s d in
    t s.numeral s.correct (sym (subst (λ x. Reads c.args.line.now c.args.from x (numeral_bytes s.numeral)) same s.bytes).are)
