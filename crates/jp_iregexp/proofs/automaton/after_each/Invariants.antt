use Rattle.std.proofs.Common.{map}
use Rattle.jp_iregexp.specs.Layouts.{state_of}
use Rattle.jp_iregexp.proofs.Masks.{IsPartAfter}
use Rattle.jp_iregexp.proofs.automaton.after_each.Given as goal

abbrev pub invariant-loop-rest : goal.invariant-loop-rest
invariant-loop-rest l = IsPartAfter (map state_of l.states) l.ready l.rest l.next

abbrev pub decreases-loop-rest : goal.decreases-loop-rest
decreases-loop-rest l = l.rest
