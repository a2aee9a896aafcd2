use Rattle.jp_laws.proofs.Runs.{step_same, others_answer, others_leave}
use Rattle.jp_laws.proofs.scripts.indexes_are_not_seen.Goals as goal

pub returns-clause-alike : goal.returns-clause-alike
returns-clause-alike c = step_same

pub returns-clause-answers : goal.returns-clause-answers
returns-clause-answers c = others_answer

pub returns-clause-lines : goal.returns-clause-lines
returns-clause-lines c = others_leave
