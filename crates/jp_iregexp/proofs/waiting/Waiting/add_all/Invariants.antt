use Rattle.std.proofs.Common.{take}
use Rattle.jp_iregexp.specs.Waiting.{Adds}
use Rattle.jp_iregexp.proofs.waiting.Waiting.add_all.Given as goal

abbrev pub invariant-loop-state : goal.invariant-loop-state
invariant-loop-state l = Adds (take l.state-index l.states) l.fn.self l.self
