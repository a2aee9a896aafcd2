use Rattle.std.proofs.Common.{◌≡◌, ℕ, ◌≤◌, length, get_or}
use Rattle.jp_decimal.specs.Magnitudes.{digits}
use Rattle.jp_decimal.proofs.parts.Magnitude.end_of_digits.Given as goal

abbrev pub invariant-loop-end : goal.invariant-loop-end
invariant-loop-end l = (l.first ≤ l.end) × (l.end ≤ length (digits l.self)) × ((j : ℕ) → l.end ≤ j → get_or (digits l.self) j 0x30 ≡ 0x30)

abbrev pub decreases-loop-end : goal.decreases-loop-end
decreases-loop-end l = l.end
