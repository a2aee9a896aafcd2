use Rattle.std.proofs.Common.{◌≡◌, slice_range}
use Rattle.jp_decimal.specs.Magnitudes.{digits}
use Rattle.jp_decimal.proofs.parts.Magnitude.digits_between.Given as goal

abbrev pub invariant-loop-position : goal.invariant-loop-position
invariant-loop-position l = l.found.items ≡ slice_range (digits l.self) l.from l.position
