use Rattle.std.proofs.Common.{map}
use Rattle.jp_iregexp.specs.Layouts.{state_of}
use Rattle.jp_iregexp.specs.States.{is_chained}
use Rattle.jp_iregexp.proofs.Masks.{IsMaskBelow}
use Rattle.jp_iregexp.proofs.automaton.chained.Given as goal

abbrev pub invariant-loop-number : goal.invariant-loop-number
invariant-loop-number l = IsMaskBelow (is_chained (map state_of l.states)) l.number l.all
