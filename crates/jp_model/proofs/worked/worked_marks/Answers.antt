-- By computing.
use Rattle.std.proofs.Common.{refl}
use Rattle.jp_model.specs.Json.Marks.{backslashes_before, quotes_before, may_begin, marks}
use Rattle.jp_model.proofs.worked.worked_marks.Goals as goal

pub returns-clause-of_an_object : goal.returns-clause-of_an_object
unfolding marks backslashes_before quotes_before may_begin
returns-clause-of_an_object c = refl

pub returns-clause-behind_an_escaped_quote : goal.returns-clause-behind_an_escaped_quote
unfolding marks backslashes_before quotes_before may_begin
returns-clause-behind_an_escaped_quote c = refl

pub returns-clause-behind_a_string : goal.returns-clause-behind_a_string
unfolding marks backslashes_before quotes_before may_begin
returns-clause-behind_a_string c = refl

pub returns-clause-of_nothing : goal.returns-clause-of_nothing
unfolding marks backslashes_before quotes_before may_begin
returns-clause-of_nothing c = refl

pub returns-clause-of_two_words : goal.returns-clause-of_two_words
unfolding marks backslashes_before quotes_before may_begin
returns-clause-of_two_words c = refl
