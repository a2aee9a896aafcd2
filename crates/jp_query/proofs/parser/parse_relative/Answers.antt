use Rattle.jp_query.proofs.RelativeOutcomes.{answer_relative_status}
use Rattle.jp_query.proofs.parser.parse_relative.Goals as goal

pub returns : goal.returns
returns c = answer_relative_status c.args.text.now c.answer.result c.answer.ensures
