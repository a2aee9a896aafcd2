use Rattle.jp_values.proofs.Bodies.{text_is}
use Rattle.jp_values.proofs.body.Body.bytes.Goals as goal

pub returns-clause-text : goal.returns-clause-text
returns-clause-text c = text_is c.args.self.bytes.now c.args.self.is_text
