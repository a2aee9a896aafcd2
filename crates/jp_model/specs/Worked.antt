-- Words for worked examples: small trees of queries, and what `match` answers.
use Rattle.std.specs.Prelude.{ℕ, ℤ, pos, neg_ℤ, List, Bool, Option, Some}
use Rattle.jp_model.specs.Json.Tree.{string}
use Rattle.jp_model.specs.Pattern.Membership.{is_in}
use Rattle.jp_model.specs.Meaning.Functions.{in_pattern}
use Rattle.jp_model.specs.Query.Syntax.{Origin, current, Segment, child_segment, Segments, no_segments, segment, Selector, name_selector, wildcard_selector, slice_selector, filter_selector, Selectors, no_selectors, selector, Logical, and_all, no_logicals, logical, Comparable, result, Argument, no_arguments, argument, Path, path, Call, call}

-- a number below 0
abbrev pub minus : ℕ → ℤ
minus n = neg_ℤ (pos n)

-- a query of one segment
abbrev pub one : Segment → Segments
one s = segment s no_segments

-- a segment of one selector
abbrev pub just : Selector → Selectors
just s = selector s no_selectors

-- a name, and what follows it
abbrev pub key : List ℕ → Segments → Segments
key name more = segment (child_segment (just (name_selector name))) more

-- a slice
abbrev pub slice : Option ℤ → Option ℤ → Option ℤ → Segments
slice first last step = one (child_segment (just (slice_selector first last step)))

-- a filter
abbrev pub filtered : Logical → Segments
filtered l = one (child_segment (just (filter_selector l)))

-- `@`
abbrev pub here : Path
here = path current no_segments

-- all children of `@`
abbrev pub all_here : Path
all_here = path current (one (child_segment (just wildcard_selector)))

-- a name after `@` or `$`
abbrev pub member_of : Origin → List ℕ → Path
member_of origin name = path origin (key name no_segments)

-- two parts with `&&`
abbrev pub both : Logical → Logical → Logical
both a b = and_all (logical a (logical b no_logicals))

-- a call of a function
abbrev pub one_argument : List ℕ → Argument → Call
one_argument function a = call function (argument a no_arguments)

-- the answer of a call as a side of a comparison
abbrev pub answer_of : Call → Comparable
answer_of c = result c

-- what `match` answers of a pattern and a string
abbrev pub matches : List ℕ → List ℕ → Bool
matches pattern text = in_pattern is_in (Some (string text)) (Some (string pattern))
