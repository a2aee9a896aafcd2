use Rattle.jp_tape.proofs.PlainNumbers.{signed_parts, signed_solid}
use Rattle.jp_tape.proofs.builder.numbers.plain_number_end.Goals as goal

pub returns-in-Some-clause-found : goal.returns-in-Some-clause-found
returns-in-Some-clause-found c = let sign = c.behind_minus-start.ensures in signed_parts c.args.line.now c.args.from c.behind_minus-start.result sign.0 sign.1 c.parts_end_by.result c.parts_end_by.ensures

pub returns-in-Some-clause-solid : goal.returns-in-Some-clause-solid
returns-in-Some-clause-solid c = signed_solid c.args.line.now c.args.from c.parts_end_by.result (returns-in-Some-clause-found c)

pub returns-in-None-clause-found : goal.returns-in-None-clause-found
returns-in-None-clause-found c = let sign = c.behind_minus-start.ensures in signed_parts c.args.line.now c.args.from c.behind_minus-start.result sign.0 sign.1 c.parts_end_plainly.result c.parts_end_plainly.ensures

pub returns-in-None-clause-solid : goal.returns-in-None-clause-solid
returns-in-None-clause-solid c = signed_solid c.args.line.now c.args.from c.parts_end_plainly.result (returns-in-None-clause-found c)
