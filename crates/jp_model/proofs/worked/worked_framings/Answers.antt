-- By computing.
use Rattle.std.proofs.Common.{refl}
use Rattle.jp_model.proofs.worked.worked_framings.Goals as goal

pub returns-clause-two_separators_are_no_text : goal.returns-clause-two_separators_are_no_text
returns-clause-two_separators_are_no_text c = refl

pub returns-clause-bytes_before_the_first_separator : goal.returns-clause-bytes_before_the_first_separator
returns-clause-bytes_before_the_first_separator c = refl

pub returns-clause-white_space_before_the_first_separator : goal.returns-clause-white_space_before_the_first_separator
returns-clause-white_space_before_the_first_separator c = refl
