-- The last byte is dropped where it is a CR.
use Rattle.jp_cli.proofs.FinalReturns.{with_return, without_return}
use Rattle.jp_cli.proofs.answer.without_final_cr.Goals as goal

pub returns-then-last-eq13 : goal.returns-then-last-eq13
returns-then-last-eq13 c = with_return c.args.line.now c.in-Some.front.now c.in-Some.last.now c.in-Some.ensures.cases.0 c.if-last-eq13.true

pub returns : goal.returns
returns c = without_return c.args.line.now c.in-Some.front.now c.in-Some.last.now c.in-Some.ensures.cases.0 c.if-last-eq13.false
