-- What is appended so far is the text of the scalars that were read.
use Rattle.std.proofs.Common.{◌≡◌, ◌++◌}
use Rattle.std.specs.List.{flat_map}
use Rattle.jp_canon.specs.Canonical.{character_text}
use Rattle.jp_strings.specs.Points.{points_of}
use Rattle.jp_strings.specs.Scalars.{scalars_left}
use Rattle.jp_canon.proofs.string.append_characters.Given as goal

abbrev pub invariant-loop-scalar : goal.invariant-loop-scalar
invariant-loop-scalar l = record {
  left : points_of l.fn.body ≡ l.yielded ++ scalars_left l.scalar-iterator;
  text : l.text.items ≡ l.fn.text.items ++ flat_map character_text l.yielded;
}
