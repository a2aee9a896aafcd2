use Rattle.jp_iregexp.proofs.Alone.{AfterBelow}
use Rattle.jp_iregexp.proofs.places.after_each.Given as goal

abbrev pub invariant-loop-p : goal.invariant-loop-p
invariant-loop-p l = AfterBelow l.text l.scalar l.p l.after
