-- The part comes after what was written.
use Rattle.std.proofs.Common.{subst}
use Rattle.jp_devices.specs.Devices.{Writes}
use Rattle.jp_devices.proofs.Chains.{ends_behind}
use Rattle.jp_grep.proofs.told.then_write.Goals as goal

pub returns-in-Ok : goal.returns-in-Ok
returns-in-Ok g c = (
  (λ start text w.
      ends_behind c.write_whole.result start c.args.messages.now c.write_whole.new.out text c.args.part.now (subst (λ r. Writes g.E.Write.contents start c.args.messages.now r text) c.in-Ok.is w) c.write_whole.ensures.text),
  c.write_whole.ensures.fault,
  c.write_whole.ensures.after,
)
