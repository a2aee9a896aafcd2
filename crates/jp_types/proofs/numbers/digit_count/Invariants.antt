use Rattle.std.proofs.Common.{◌≡◌, ◌+◌, length, drop}
use Rattle.jp_model.specs.Json.Numbers.{leading_digits}
use Rattle.jp_types.proofs.numbers.digit_count.Given as goal

abbrev pub invariant-loop-count : goal.invariant-loop-count
invariant-loop-count l = l.count + length (leading_digits (drop l.count l.text)) ≡ length (leading_digits l.text)
