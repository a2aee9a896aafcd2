use Rattle.std.proofs.Common.{◌≡◌, ℕ, ◌<◌, true, get_or}
use Rattle.jp_model.specs.Characters.{is_digit}
use Rattle.jp_decimal.proofs.reading.count_digits.Given as goal

abbrev pub invariant-loop-position : goal.invariant-loop-position
invariant-loop-position l = (j : ℕ) → j < l.position → is_digit (get_or l.text j 0x30) ≡ true
