use Rattle.jp_tape.proofs.Slots.{one_more_apart}
use Rattle.jp_tape.proofs.builder.names.are_apart.Goals as goal

pub loop-later-preserved : goal.loop-later-preserved
loop-later-preserved c = one_more_apart c.args.line.now c.args.names.now c.loop-later.later _ c.loop-later-test.true c.loop-later.invariant c.if-not-names-later.false (c.differs_from.ensures c.if-not-differs_from.false)
