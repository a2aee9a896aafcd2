-- By computing.
use Rattle.std.proofs.Common.{refl}
use Rattle.jp_model.proofs.worked.worked_patterns.Goals as goal

pub returns-clause-a_bar : goal.returns-clause-a_bar
returns-clause-a_bar c = refl

pub returns-clause-no_class_escape : goal.returns-clause-no_class_escape
returns-clause-no_class_escape c = refl

pub returns-clause-no_double_quantifier : goal.returns-clause-no_double_quantifier
returns-clause-no_double_quantifier c = refl

pub returns-clause-no_group_options : goal.returns-clause-no_group_options
returns-clause-no_group_options c = refl

pub returns-clause-no_open_brace : goal.returns-clause-no_open_brace
returns-clause-no_open_brace c = refl

pub returns-clause-no_bracket : goal.returns-clause-no_bracket
returns-clause-no_bracket c = refl

pub returns-clause-no_empty_class : goal.returns-clause-no_empty_class
returns-clause-no_empty_class c = refl

pub returns-clause-no_surrogates : goal.returns-clause-no_surrogates
returns-clause-no_surrogates c = refl

pub returns-clause-no_other_case : goal.returns-clause-no_other_case
returns-clause-no_other_case c = refl

pub returns-clause-no_count_backward : goal.returns-clause-no_count_backward
returns-clause-no_count_backward c = refl

pub returns-clause-no_large_count : goal.returns-clause-no_large_count
returns-clause-no_large_count c = refl

pub returns-clause-a_caret : goal.returns-clause-a_caret
returns-clause-a_caret c = refl

pub returns-clause-not_a_caret : goal.returns-clause-not_a_caret
returns-clause-not_a_caret c = refl

pub returns-clause-a_negated_range : goal.returns-clause-a_negated_range
returns-clause-a_negated_range c = refl

pub returns-clause-a_last_hyphen : goal.returns-clause-a_last_hyphen
returns-clause-a_last_hyphen c = refl

pub returns-clause-a_first_hyphen : goal.returns-clause-a_first_hyphen
returns-clause-a_first_hyphen c = refl

pub returns-clause-an_empty_branch : goal.returns-clause-an_empty_branch
returns-clause-an_empty_branch c = refl

pub returns-clause-zeros_of_a_count : goal.returns-clause-zeros_of_a_count
returns-clause-zeros_of_a_count c = refl

pub returns-clause-counts_of_counts : goal.returns-clause-counts_of_counts
returns-clause-counts_of_counts c = refl

pub returns-clause-pairs : goal.returns-clause-pairs
returns-clause-pairs c = refl

pub returns-clause-no_pairs : goal.returns-clause-no_pairs
returns-clause-no_pairs c = refl

pub returns-clause-a_dot_is_no_carriage_return : goal.returns-clause-a_dot_is_no_carriage_return
returns-clause-a_dot_is_no_carriage_return c = refl
