use Rattle.std.proofs.Common.{◌==◌, get_or}
use Rattle.std.specs.Int.{bit_at}
use Rattle.jp_iregexp.proofs.Masks.{IsMaskBelow}
use Rattle.jp_iregexp.proofs.automaton.having.Given as goal

abbrev pub invariant-loop-number : goal.invariant-loop-number
invariant-loop-number l = IsMaskBelow (λ p. bit_at (get_or l.sets p 0) l.code == 1) l.number l.all
