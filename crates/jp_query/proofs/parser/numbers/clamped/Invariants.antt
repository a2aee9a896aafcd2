use Rattle.std.proofs.Common.{◌≡◌, ◌≤◌, drop}
use Rattle.jp_model.specs.Characters.{value_behind, digits_value}
use Rattle.jp_query.proofs.Digits.{capped}
use Rattle.jp_query.proofs.parser.numbers.clamped.Given as goal

abbrev pub invariant-loop-c : goal.invariant-loop-c
invariant-loop-c l = (capped (value_behind l.value (drop l.c-index l.digits)) ≡ capped (digits_value l.digits)) × (l.value ≤ 9007199254740992)
