use Rattle.std.proofs.Common.{rules}
use Rattle.jp_syntax.proofs.SameSteps.{same_texts}
use Rattle.jp_syntax.proofs.paths.StepPartialEq.eq.Goals as goal

pub returns-in-Name-Name : goal.returns-in-Name-Name
returns-in-Name-Name c = let same = same_texts c.as_str.result.now c.as_str-in-Name-Name.result.now c.as_str.utf8 c.as_str-in-Name-Name.utf8 in search (rules, same)
