use Rattle.std.proofs.Common.{◌∙◌}
use Rattle.jp_syntax.proofs.SameSteps.{same_paths}
use Rattle.jp_syntax.proofs.paths.SingularPathPartialEq.eq.Goals as goal

pub returns : goal.returns
returns c = c.eq.ensures ∙ same_paths c.args.self.now.steps.items c.args.other.now.steps.items
