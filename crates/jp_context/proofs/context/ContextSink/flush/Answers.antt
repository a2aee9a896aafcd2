-- A flush shows no row.
use Rattle.std.proofs.Common.{refl}
use Rattle.jp_context.proofs.Standing.{tells_flush}
use Rattle.jp_context.proofs.context.ContextSink.flush.Goals as goal

pub returns-clause-told : goal.returns-clause-told
returns-clause-told g c =
    let old = c.args.self.now in
    tells_flush old (record { groups = old.groups; text = c.flush.new.self }) refl refl c.flush.result c.flush.ensures.told
