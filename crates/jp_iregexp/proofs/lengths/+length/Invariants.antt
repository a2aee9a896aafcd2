use Rattle.std.proofs.Common.{◌≡◌, drop, None}
use Rattle.jp_iregexp.specs.Lengths.{sum_list, common_list}
use Rattle.jp_iregexp.proofs.lengths.+length.Given as goal

abbrev pub invariant-sequence_length-loop-part : goal.invariant-sequence_length-loop-part
invariant-sequence_length-loop-part l = sum_list 0 l.parts ≡ sum_list l.length (drop l.part-index l.parts)

abbrev pub invariant-choice_length-loop-part : goal.invariant-choice_length-loop-part
invariant-choice_length-loop-part l = common_list None l.parts ≡ common_list l.common (drop l.part-index l.parts)
