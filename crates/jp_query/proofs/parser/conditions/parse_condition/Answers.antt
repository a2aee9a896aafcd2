-- What is answered for a condition is what is said of it.
use Rattle.jp_query.proofs.Alone.{condition_faults, condition_found, condition_only}
use Rattle.jp_query.proofs.parser.conditions.parse_condition.Goals as goal

pub returns-clause-found : goal.returns-clause-found
returns-clause-found c = condition_found c.args.text.now c.answer.result c.answer.ensures

pub returns-clause-only : goal.returns-clause-only
returns-clause-only c = λ l sized spelled exact small. condition_only c.args.text.now l sized spelled exact small c.answer.result c.answer.ensures

pub returns-clause-fault : goal.returns-clause-fault
returns-clause-fault c = condition_faults c.args.text.now c.answer.result c.answer.ensures
