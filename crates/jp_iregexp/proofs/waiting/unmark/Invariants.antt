use Rattle.std.proofs.Common.{take}
use Rattle.jp_iregexp.proofs.Marks.{IsUnmarked}
use Rattle.jp_iregexp.proofs.waiting.unmark.Given as goal

abbrev pub invariant-loop-state : goal.invariant-loop-state
invariant-loop-state l = IsUnmarked (take l.state-index l.states) l.fn.has l.has
