-- What was answered stays, but for what says something of the list.
use Rattle.jp_nodes.specs.Cursors.{line_of}
use Rattle.jp_eval.proofs.Remembering.{apart_remembered}
use Rattle.jp_eval.proofs.evaluate.Program.selects_again.Goals as goal

pub selects_one-requires-clause-remembers : goal.selects_one-requires-clause-remembers
selects_one-requires-clause-remembers c = apart_remembered c.args.self.now.slots.items (line_of c.args.root) c.args.frame.now c.forget_found.new.self c.forget_found.ensures.answers c.requires.remembers
