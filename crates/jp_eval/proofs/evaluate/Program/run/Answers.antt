-- Nothing was answered yet.
use Rattle.jp_nodes.specs.Cursors.{line_of}
use Rattle.jp_eval.proofs.Remembering.{none_remembered}
use Rattle.jp_eval.proofs.evaluate.Program.run.Goals as goal

pub push_all-result-requires-clause-remembers : goal.push_all-result-requires-clause-remembers
push_all-result-requires-clause-remembers c = none_remembered c.args.self.now.slots.items (line_of c.args.root) _ c.new-frame.ensures.answers
