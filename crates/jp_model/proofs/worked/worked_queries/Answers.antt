-- By the derivations in proofs/Rows.
use Rattle.jp_model.proofs.Rows.Queries.{the_root, a_filter, an_escaped_single_quote, an_escaped_double_quote, the_other_quote, a_slice_with_blanks, a_surrogate_pair, a_call, a_negated_group, descendants_and_two_selectors, no_blank_at_the_end}
use Rattle.jp_model.proofs.worked.worked_queries.Goals as goal

pub returns-clause-the_root : goal.returns-clause-the_root
returns-clause-the_root c = the_root

pub returns-clause-a_filter : goal.returns-clause-a_filter
returns-clause-a_filter c = a_filter

pub returns-clause-an_escaped_single_quote : goal.returns-clause-an_escaped_single_quote
returns-clause-an_escaped_single_quote c = an_escaped_single_quote

pub returns-clause-an_escaped_double_quote : goal.returns-clause-an_escaped_double_quote
returns-clause-an_escaped_double_quote c = an_escaped_double_quote

pub returns-clause-the_other_quote : goal.returns-clause-the_other_quote
returns-clause-the_other_quote c = the_other_quote

pub returns-clause-a_slice_with_blanks : goal.returns-clause-a_slice_with_blanks
returns-clause-a_slice_with_blanks c = a_slice_with_blanks

pub returns-clause-a_surrogate_pair : goal.returns-clause-a_surrogate_pair
returns-clause-a_surrogate_pair c = a_surrogate_pair

pub returns-clause-a_call : goal.returns-clause-a_call
returns-clause-a_call c = a_call

pub returns-clause-a_negated_group : goal.returns-clause-a_negated_group
returns-clause-a_negated_group c = a_negated_group

pub returns-clause-descendants_and_two_selectors : goal.returns-clause-descendants_and_two_selectors
returns-clause-descendants_and_two_selectors c = descendants_and_two_selectors

pub returns-clause-no_blank_at_the_end : goal.returns-clause-no_blank_at_the_end
returns-clause-no_blank_at_the_end c = no_blank_at_the_end
