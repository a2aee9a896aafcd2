-- The characters so far are appended.
use Rattle.std.proofs.Common.{◌≡◌, ◌++◌, encode_utf8_all}
use Rattle.jp_strings.specs.Points.{points_of}
use Rattle.jp_strings.specs.Scalars.{scalars_left}
use Rattle.jp_grep.proofs.spelling.append_body.Given as goal

abbrev pub invariant-loop-scalar : goal.invariant-loop-scalar
invariant-loop-scalar l = record {
  left : points_of l.fn.body ≡ l.yielded ++ scalars_left l.scalar-iterator;
  text : l.text.items ≡ l.fn.text.items ++ encode_utf8_all l.yielded;
}
