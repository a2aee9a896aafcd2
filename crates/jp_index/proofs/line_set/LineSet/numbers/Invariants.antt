-- The numbers in front of a position whose bit is set, or of all.
use Rattle.std.proofs.Common.{◌≡◌, ◌-◌, ◌<◌, ◌≤◌, take}
use Rattle.jp_model.specs.Numbered.{numbers_where}
use Rattle.jp_index.specs.LineSets.{bit_of, bits_of}
use Rattle.jp_index.proofs.SetBits.{is_set}
use Rattle.jp_index.proofs.line_set.LineSet.numbers.Given as goal

abbrev pub invariant-loop-position : goal.invariant-loop-position
invariant-loop-position l = record {
  within : l.position ≤ l.end;
  there : l.position < l.end → bit_of l.self.words.items l.position ≡ 1;
  numbers : l.numbers.items ≡ numbers_where is_set 0 (take l.position (bits_of l.self.words.items));
}

abbrev pub decreases-loop-position : goal.decreases-loop-position
decreases-loop-position l = l.end - l.position
