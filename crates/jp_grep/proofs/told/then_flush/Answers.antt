-- What was written stays.
use Rattle.std.proofs.Common.{[], subst}
use Rattle.jp_devices.specs.Devices.{Writes}
use Rattle.jp_devices.proofs.Chains.{ends_behind}
use Rattle.jp_grep.proofs.told.then_flush.Goals as goal

pub returns-in-Ok-clause-text : goal.returns-in-Ok-clause-text
returns-in-Ok-clause-text g c = (
  (λ start text w.
      ends_behind c.flush_messages.result start c.args.messages.now c.flush_messages.new.messages text [] (subst (λ r. Writes g.E.Write.contents start c.args.messages.now r text) c.in-Ok.is w) c.flush_messages.ensures.text),
  c.flush_messages.ensures.fault,
  c.flush_messages.ensures.after,
)
