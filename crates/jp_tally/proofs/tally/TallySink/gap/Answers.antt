-- A gap is no row.
use Rattle.jp_tally.proofs.Telling.{takes_gap}
use Rattle.jp_tally.proofs.tally.TallySink.gap.Goals as goal

pub returns-clause-told : goal.returns-clause-told
returns-clause-told c = takes_gap c.args.self.now
