-- What was written is what is to be shown of what was told.
use Rattle.std.proofs.Common.{◌∙◌, ℕ, List, sym, subst}
use Rattle.jp_devices.specs.Devices.{Begins}
use Rattle.jp_context.proofs.Standing.{all_written}
use Rattle.jp_context.proofs.context.Context.finish.Goals as goal

pub returns-clause-all : goal.returns-clause-all
returns-clause-all g c told stands working = c.finish.ensures.all working ∙ sym (all_written c.args.self told stands)

pub returns-clause-begins : goal.returns-clause-begins
returns-clause-begins g c told stands = subst (λ (t : List ℕ). Begins c.finish.result.taken t) (sym (all_written c.args.self told stands)) c.finish.ensures.begins
