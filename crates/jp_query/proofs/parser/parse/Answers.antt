use Rattle.jp_query.proofs.Outcomes.{answer_found, answer_only, answer_faults, answer_status}
use Rattle.jp_query.proofs.parser.parse.Goals as goal

pub returns-clause-found : goal.returns-clause-found
returns-clause-found c = answer_found c.args.text.now c.answer.result c.answer.ensures

pub returns-clause-only : goal.returns-clause-only
returns-clause-only c = λ q sized spelled exact small. answer_only c.args.text.now q sized spelled exact small c.answer.result c.answer.ensures

pub returns-clause-fault : goal.returns-clause-fault
returns-clause-fault c = answer_faults c.args.text.now c.answer.result c.answer.ensures

pub returns-clause-status : goal.returns-clause-status
returns-clause-status c = answer_status c.args.text.now c.answer.result c.answer.ensures
