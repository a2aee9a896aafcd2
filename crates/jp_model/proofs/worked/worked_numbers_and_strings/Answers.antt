-- By computing.
use Rattle.std.proofs.Common.{refl}
use Rattle.std.specs.Str.{chars}
use Rattle.std.specs.Char.{encode_utf8}
use Rattle.jp_model.proofs.worked.worked_numbers_and_strings.Goals as goal

pub returns-clause-a_leading_zero : goal.returns-clause-a_leading_zero
returns-clause-a_leading_zero c = refl

pub returns-clause-an_exponent_of_16_digits : goal.returns-clause-an_exponent_of_16_digits
returns-clause-an_exponent_of_16_digits c = refl

pub returns-clause-leading_zeros_of_an_exponent : goal.returns-clause-leading_zeros_of_an_exponent
returns-clause-leading_zeros_of_an_exponent c = refl

pub returns-clause-its_mantissa : goal.returns-clause-its_mantissa
returns-clause-its_mantissa c = refl

pub returns-clause-its_scale : goal.returns-clause-its_scale
returns-clause-its_scale c = refl

pub returns-clause-its_value : goal.returns-clause-its_value
returns-clause-its_value c = refl

pub returns-clause-fractions : goal.returns-clause-fractions
returns-clause-fractions c = refl

pub returns-clause-great_exponents : goal.returns-clause-great_exponents
returns-clause-great_exponents c = refl

pub returns-clause-strings_by_scalars : goal.returns-clause-strings_by_scalars
returns-clause-strings_by_scalars c = refl

pub returns-clause-a_front_is_less : goal.returns-clause-a_front_is_less
returns-clause-a_front_is_less c = refl

pub returns-clause-no_escape : goal.returns-clause-no_escape
unfolding chars encode_utf8
returns-clause-no_escape c = refl

pub returns-clause-half_a_pair : goal.returns-clause-half_a_pair
unfolding chars encode_utf8
returns-clause-half_a_pair c = refl

pub returns-clause-it_stands_alone : goal.returns-clause-it_stands_alone
returns-clause-it_stands_alone c = refl

pub returns-clause-a_pair : goal.returns-clause-a_pair
unfolding chars encode_utf8
returns-clause-a_pair c = refl
