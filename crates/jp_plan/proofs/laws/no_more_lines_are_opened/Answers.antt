-- Each line is opened once, or not.
use Rattle.jp_plan.proofs.Explained.{few_opened}
use Rattle.jp_plan.proofs.laws.no_more_lines_are_opened.Goals as goal

pub returns : goal.returns
returns c = few_opened
