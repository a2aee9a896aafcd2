use Rattle.std.proofs.Common.{◌≡◌, ◌+◌, length, true}
use Rattle.jp_strings.specs.Points.{points_from, is_text_from}
use Rattle.jp_strings.proofs.order.scalar_count.Given as goal

abbrev pub invariant-loop-at : goal.invariant-loop-at
invariant-loop-at l = record {
  text : is_text_from l.body l.at ≡ true;
  counted : l.count + length (points_from l.body l.at) ≡ length (points_from l.body 0);
}

abbrev pub decreases-loop-at : goal.decreases-loop-at
decreases-loop-at l = length (points_from l.body l.at)
