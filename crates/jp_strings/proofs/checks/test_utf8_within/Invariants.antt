use Rattle.std.proofs.Common.{length, ◌-◌, ◌≡◌, ◌≤◌, drop}
use Rattle.std.specs.Str.{IsUtf8}
use Rattle.jp_strings.specs.Points.{units_from}
use Rattle.jp_strings.specs.Halves.{answer}
use Rattle.jp_strings.proofs.checks.test_utf8_within.Given as goal

abbrev pub invariant-loop-at : goal.invariant-loop-at
invariant-loop-at l = record {
  within : l.at ≤ length l.body;
  utf8 : IsUtf8 (drop l.at l.body);
  same : answer l.initial.seen (units_from l.body 0) ≡ answer l.seen (units_from l.body l.at);
}

abbrev pub decreases-loop-at : goal.decreases-loop-at
decreases-loop-at l = length l.body - l.at
