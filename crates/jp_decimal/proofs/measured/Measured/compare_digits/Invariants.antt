use Rattle.std.proofs.Common.{◌≡◌, ℕ, ◌+◌, ◌<◌, get_or}
use Rattle.jp_decimal.specs.Magnitudes.{digits}
use Rattle.jp_decimal.proofs.measured.Measured.compare_digits.Given as goal

abbrev pub invariant-loop-position : goal.invariant-loop-position
invariant-loop-position l = (i : ℕ) → i < l.position → get_or (digits l.self.magnitude) (l.self.first + i) 0x30 ≡ get_or (digits l.other.magnitude) (l.other.first + i) 0x30
