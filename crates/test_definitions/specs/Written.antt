-- What a small script writes over a small collection, by the definitions alone.
use Rattle.std.specs.Prelude.{ℕ, zero, suc, List, [], ◌++◌, replicate, Bool, ⊤}
use Rattle.std.specs.Fmt.{digits}
use Rattle.std.specs.Str.{chars, is_utf8}
use lib.Utf8.{encode}
use Rattle.jp_model.specs.declared.Framing.{Framing}
use Rattle.jp_model.specs.declared.Framing.TheVariants as framings
use Rattle.jp_model.specs.Script.Headline.{output}
use Rattle.jp_model.specs.Script.Commands.{command_of}
use Rattle.jp_query.specs.Reading.Scalars.{many, shorthand, function_name, call_start}
use Rattle.jp_query.specs.Reading.Numbers.{positive, some_digits, int_at, int_digits, minus, fraction, sign, exponent_behind, exponent, number_at}
use Rattle.jp_query.specs.Reading.Strings.{hex4, low_half, hex_scalar, escape_at, next_scalar, between_quotes, string_at}
use Rattle.jp_query.specs.Reading.Literals.{word_at, literal_at, operator_at, origin_at, begins_without_literal}
use Rattle.jp_query.specs.Reading.Queries.{bound_at, step_at, slice_behind, index_or_slice, singular_behind, singular_segment, next_singular, singular_at, dotted, selector_at, next_selector, brackets_at, descendant_at, next_segment, segments_at, closed_at, condition_at, argument_at, next_argument, arguments_at, call_behind, comparable_at, comparison_behind, query_behind, call_or_comparison, literal_comparison, test_at, negated_at, plain_at, basic_at, next_basic, and_at, next_and, or_at, logical_at, query_at, relative_at}
use Rattle.jp_query.specs.Status.{read_text, read_relative, query_of, relative_query_of}

-- what is opened to compute the query that a text spells
unfoldable pub reading : ⊤
unfolding many shorthand function_name call_start positive some_digits int_at int_digits minus fraction sign exponent_behind exponent number_at hex4 low_half hex_scalar escape_at next_scalar between_quotes string_at word_at literal_at operator_at origin_at begins_without_literal bound_at step_at slice_behind index_or_slice singular_behind singular_segment next_singular singular_at dotted selector_at next_selector brackets_at descendant_at next_segment segments_at closed_at condition_at argument_at next_argument arguments_at call_behind comparable_at comparison_behind query_behind call_or_comparison literal_comparison test_at negated_at plain_at basic_at next_basic and_at next_and or_at logical_at query_at relative_at read_text read_relative query_of relative_query_of chars is_utf8 encode
reading = tt

-- what a script writes over a collection that is framed so, where the lines hold at most `most` bytes, and growths were
-- refused in the commands that the flags tell
unfoldable pub written_by : Framing → ℕ → List Bool → List ℕ → List ℕ → List ℕ
unfolding reading digits chars is_utf8 encode
written_by framing most flags collection script =
    output query_of command_of (record { framing = framing; most = most; script_most = 4294967295 }) collection script flags

-- the same of a collection in lines, with room and memory enough
unfoldable pub written : List ℕ → List ℕ → List ℕ
unfolding written_by
written collection script = written_by framings.Lines 4294967295 [] collection script

-- a number of copies of a text, one after another
abbrev pub times_in_row : ℕ → List ℕ → List ℕ
times_in_row zero text = []
times_in_row (suc n) text = text ++ times_in_row n text

-- arrays in one another
abbrev pub nested : ℕ → List ℕ
nested n = replicate n 0x5B ++ replicate n 0x5D
