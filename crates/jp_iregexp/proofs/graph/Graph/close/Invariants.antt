use Rattle.std.proofs.Common.{◌+◌, ◌-◌, length}
use Rattle.jp_iregexp.specs.Waiting.{absent}
use Rattle.jp_iregexp.proofs.Walking.{IsClosing}
use Rattle.jp_iregexp.proofs.graph.Graph.close.Given as goal

abbrev pub invariant-loop-turn : goal.invariant-loop-turn
invariant-loop-turn l = IsClosing l.self.states.items l.fn.waiting l.waiting l.turn

abbrev pub decreases-loop-turn : goal.decreases-loop-turn
decreases-loop-turn l = absent l.waiting + length l.waiting.list.items - l.turn
