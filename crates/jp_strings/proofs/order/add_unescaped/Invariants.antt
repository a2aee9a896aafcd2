use Rattle.std.proofs.Common.{◌≡◌, ◌++◌, length, true}
use Rattle.std.specs.Str.{encode_utf8_all}
use Rattle.std.specs.String.{string_bytes}
use Rattle.jp_strings.specs.Points.{points_from, is_text_from}
use Rattle.jp_strings.proofs.order.add_unescaped.Given as goal

abbrev pub invariant-loop-at : goal.invariant-loop-at
invariant-loop-at l = record {
  text : is_text_from l.body l.at ≡ true;
  bytes : string_bytes l.text ++ encode_utf8_all (points_from l.body l.at) ≡ string_bytes l.fn.text ++ encode_utf8_all (points_from l.body 0);
}

abbrev pub decreases-loop-at : goal.decreases-loop-at
decreases-loop-at l = length (points_from l.body l.at)
