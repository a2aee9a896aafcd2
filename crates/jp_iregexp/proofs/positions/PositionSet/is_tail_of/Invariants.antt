use Rattle.jp_iregexp.proofs.Bits.{words_in}
use Rattle.jp_iregexp.proofs.Tails.{TailBelow}
use Rattle.jp_iregexp.proofs.positions.PositionSet.is_tail_of.Given as goal

abbrev pub invariant-loop-w : goal.invariant-loop-w
invariant-loop-w l = TailBelow (words_in l.self) (words_in l.whole) l.w l.begun
