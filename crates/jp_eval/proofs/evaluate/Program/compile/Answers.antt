-- No slot comes after those that are there.
use Rattle.jp_eval.proofs.Meanings.{whole}
use Rattle.jp_eval.proofs.evaluate.Program.compile.Goals as goal

pub returns : goal.returns
returns c = whole _ _ c.in_ok-steps.ensures
