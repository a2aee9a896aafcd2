-- No line is seen yet.
use Rattle.std.proofs.Common.{refl}
use Rattle.jp_survey.proofs.survey.Survey.new.Goals as goal

pub returns-clause-told : goal.returns-clause-told
returns-clause-told c = record { counted = λ off. (refl, c.in_ok-new.ensures.seen) }
