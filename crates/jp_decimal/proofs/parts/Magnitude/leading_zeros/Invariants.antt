use Rattle.jp_decimal.specs.Magnitudes.{digits, BeginsWithZeros}
use Rattle.jp_decimal.proofs.parts.Magnitude.leading_zeros.Given as goal

abbrev pub invariant-loop-position : goal.invariant-loop-position
invariant-loop-position l = BeginsWithZeros (digits l.self) l.position
