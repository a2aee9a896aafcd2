use Rattle.std.proofs.Common.{map}
use Rattle.jp_iregexp.specs.Layouts.{state_of}
use Rattle.jp_iregexp.proofs.Lowest.{IsPartStep}
use Rattle.jp_iregexp.proofs.automaton.asked_step.Given as goal

abbrev pub invariant-loop-rest : goal.invariant-loop-rest
invariant-loop-rest l = IsPartStep (map state_of l.states) l.waiting l.scalar l.rest l.next

abbrev pub decreases-loop-rest : goal.decreases-loop-rest
decreases-loop-rest l = l.rest
