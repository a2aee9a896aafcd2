use Rattle.jp_iregexp.proofs.Walking.{IsReading}
use Rattle.jp_iregexp.proofs.graph.Graph.step.Given as goal

abbrev pub invariant-loop-number : goal.invariant-loop-number
invariant-loop-number l = IsReading l.self.states.items l.waiting.list.items l.scalar l.next l.number-index
