-- What the slot asks is read by those before it.
use Rattle.std.proofs.Common.{◌∙◌, ap}
use Rattle.jp_eval.specs.Programs.{table_of}
use Rattle.jp_eval.proofs.Tables.{table_added}
use Rattle.jp_eval.proofs.compile.Compiler.add_slot.Goals as goal

pub returns-clause-added : goal.returns-clause-added
returns-clause-added c = ap table_of c.in_ok-push.ensures.items ∙ table_added c.args.self.now.slots.items c.args.slot
