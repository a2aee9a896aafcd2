-- No slot comes after those that are there.
use Rattle.jp_eval.proofs.Meanings.{whole}
use Rattle.jp_eval.proofs.predicate.Predicate.compile.Goals as goal

pub returns : goal.returns
returns c = whole _ _ c.in_ok-condition.ensures
