-- The bytes so far are digits.
use Rattle.std.proofs.Common.{◌≡◌, ◌++◌, drop, take}
use Rattle.jp_model.specs.Json.Numbers.{leading_digits}
use Rattle.jp_table.proofs.literal.count_digits.Given as goal

abbrev pub invariant-loop-position : goal.invariant-loop-position
invariant-loop-position l = leading_digits l.text ≡ take l.position l.text ++ leading_digits (drop l.position l.text)
