-- Nothing is remembered.
use Rattle.jp_eval.proofs.Remembering.{none_remembered}
use Rattle.jp_eval.proofs.frame.Frame.new.Goals as goal

pub returns-clause-remembers : goal.returns-clause-remembers
returns-clause-remembers c slots root = none_remembered slots root _ c.new-2.ensures.items
