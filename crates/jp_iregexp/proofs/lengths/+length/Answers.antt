use Rattle.std.proofs.Common.{None, sym, ◌∙◌, ap}
use Rattle.jp_iregexp.specs.Lengths.{length_of, sum_list, common_list}
use Rattle.jp_iregexp.proofs.Noted.{length_of_Sequence, length_of_Choice}
use Rattle.jp_iregexp.proofs.lengths.+length.Goals as goal

pub common_length-returns-in-Sequence : goal.common_length-returns-in-Sequence
common_length-returns-in-Sequence t c = c.sequence_length.ensures ∙ ap (sum_list 0) c.as_slice.ensures.value ∙ sym (ap length_of c.in-Sequence.is ∙ length_of_Sequence c.in-Sequence.parts)

pub common_length-returns-in-Choice : goal.common_length-returns-in-Choice
common_length-returns-in-Choice t c = c.choice_length.ensures ∙ ap (common_list None) c.as_slice-in-Choice.ensures.value ∙ sym (ap length_of c.in-Choice.is ∙ length_of_Choice c.in-Choice.parts)
