use Rattle.std.proofs.Common.{◌≡◌, ◌≤◌, ◌-◌, length, drop}
use Rattle.jp_model.specs.Json.Numbers.{without_leading_zeros}
use Rattle.jp_decimal.proofs.reading.behind_zeros.Given as goal

abbrev pub invariant-loop-position : goal.invariant-loop-position
invariant-loop-position l = (l.position ≤ length l.digits) × (without_leading_zeros (drop l.position l.digits) ≡ without_leading_zeros l.digits)

abbrev pub decreases-loop-position : goal.decreases-loop-position
decreases-loop-position l = length l.initial.digits - l.position
