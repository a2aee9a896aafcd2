use Rattle.std.proofs.Common.{◌≡◌, length}
use Rattle.jp_model.specs.Json.Numbers.{without_leading_zeros}
use Rattle.jp_types.proofs.numbers.behind_zeros.Given as goal

abbrev pub invariant-loop-rest : goal.invariant-loop-rest
invariant-loop-rest l = without_leading_zeros l.rest ≡ without_leading_zeros l.text

abbrev pub decreases-loop-rest : goal.decreases-loop-rest
decreases-loop-rest l = length l.rest
