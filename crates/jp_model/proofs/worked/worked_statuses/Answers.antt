-- By computing.
use Rattle.std.proofs.Common.{refl}
use Rattle.std.specs.Fmt.{digits}
use Rattle.std.specs.Str.{chars, is_utf8}
use lib.Utf8.{encode}
use Rattle.jp_model.proofs.worked.worked_statuses.Goals as goal

pub returns-clause-an_object : goal.returns-clause-an_object
unfolding digits encode chars is_utf8
returns-clause-an_object c = refl

pub returns-clause-a_word_behind_a_blank : goal.returns-clause-a_word_behind_a_blank
unfolding digits encode chars is_utf8
returns-clause-a_word_behind_a_blank c = refl

pub returns-clause-an_escaped_pair : goal.returns-clause-an_escaped_pair
unfolding digits encode chars is_utf8
returns-clause-an_escaped_pair c = refl

pub returns-clause-white_space : goal.returns-clause-white_space
unfolding digits encode chars is_utf8
returns-clause-white_space c = refl

pub returns-clause-no_utf8 : goal.returns-clause-no_utf8
unfolding digits encode chars is_utf8
returns-clause-no_utf8 c = refl

pub returns-clause-a_last_comma : goal.returns-clause-a_last_comma
unfolding digits encode chars is_utf8
returns-clause-a_last_comma c = refl

pub returns-clause-a_leading_zero : goal.returns-clause-a_leading_zero
unfolding digits encode chars is_utf8
returns-clause-a_leading_zero c = refl

pub returns-clause-a_byte_order_mark : goal.returns-clause-a_byte_order_mark
unfolding digits encode chars is_utf8
returns-clause-a_byte_order_mark c = refl

pub returns-clause-half_a_pair : goal.returns-clause-half_a_pair
unfolding digits encode chars is_utf8
returns-clause-half_a_pair c = refl

pub returns-clause-a_long_exponent : goal.returns-clause-a_long_exponent
unfolding digits encode chars is_utf8
returns-clause-a_long_exponent c = refl

pub returns-clause-a_long_exponent_of_zero : goal.returns-clause-a_long_exponent_of_zero
unfolding digits encode chars is_utf8
returns-clause-a_long_exponent_of_zero c = refl

pub returns-clause-equal_names : goal.returns-clause-equal_names
unfolding digits encode chars is_utf8
returns-clause-equal_names c = refl

pub returns-clause-a_cut_number : goal.returns-clause-a_cut_number
unfolding digits encode chars is_utf8
returns-clause-a_cut_number c = refl

pub returns-clause-grammar_before_the_cut : goal.returns-clause-grammar_before_the_cut
unfolding digits encode chars is_utf8
returns-clause-grammar_before_the_cut c = refl

pub returns-clause-a_word_with_its_end : goal.returns-clause-a_word_with_its_end
unfolding digits encode chars is_utf8
returns-clause-a_word_with_its_end c = refl

pub returns-clause-brackets_show_their_end : goal.returns-clause-brackets_show_their_end
unfolding digits encode chars is_utf8
returns-clause-brackets_show_their_end c = refl
