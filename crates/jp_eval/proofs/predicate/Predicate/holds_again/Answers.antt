-- What was answered stays, but for what says something of the list.
use Rattle.jp_nodes.specs.Cursors.{line_of}
use Rattle.jp_eval.proofs.Remembering.{apart_remembered}
use Rattle.jp_eval.proofs.predicate.Predicate.holds_again.Goals as goal

pub holds-requires-clause-remembers : goal.holds-requires-clause-remembers
holds-requires-clause-remembers c = apart_remembered c.args.self.now.slots.items (line_of c.args.root) c.args.frame.now c.forget_found.new.self c.forget_found.ensures.answers c.requires.remembers
