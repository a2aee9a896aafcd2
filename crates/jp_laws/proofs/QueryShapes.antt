-- What a text of the grammar of queries spells is a query that the printer can say.
use Rattle.std.proofs.Common.{◌≡◌, ℕ, Bool, true, false, List, Option, Some, None, is_some, refl}
use Rattle.std.specs.List.{list_all}
use Rattle.std.proofs.lemmas.Bool.{and_from}
use Rattle.jp_model.specs.Query.Singular.{singular_steps, with_first}
use Rattle.jp_model.specs.Query.Spelling.{Run, run_ends, run_goes_on, FunctionName, function_name, IsLiteral, number_spelled, string_spelled, true_spelled, false_spelled, null_spelled, SingularSegment, bracketed_name, pointed_name, bracketed_index, SingularSegments, singular_end, singular_goes_on, negated_if, IsSegments, segments_end, segments_go_on, IsSegment, child_brackets, child_wildcard, child_name, descendant_brackets, descendant_wildcard, descendant_name, IsBrackets, brackets, IsMoreSelectors, selectors_end, selectors_go_on, IsSelector, quoted_name, wildcard_mark, index_int, slice_parts, filter_mark, IsLogical, some_and, IsMoreOr, or_ends, or_goes_on, IsAnd, some_basic, IsMoreAnd, and_ends, and_goes_on, IsBasic, parens, comparison, query_test, call_test, IsQuery, filter_query, IsComparable, literal_side, singular_side, call_side, IsCall, call_without, call_with, IsMoreArguments, arguments_end, arguments_go_on, IsArgument, literal_argument, query_argument, call_argument, logical_argument, SpellsQuery, query}
use Rattle.jp_model.specs.Query.Syntax.{Literal, Segment, Segments, segment, Selector, Selectors, Logical, Logicals, Comparable, Argument, Arguments, Path, Call}
use Rattle.jp_model.specs.Steps.{Step}
use Rattle.jp_laws.specs.QueryTexts.{IsFunctionName, CanBeLiteral, CanBeSegments, CanBeSegment, CanBeSelectors, CanBeMoreSelectors, CanBeSelector, CanBeLogical, CanBeLogicals, CanBeComparable, CanBeFilterQuery, CanBeCall, CanBeArguments, CanBeArgument}

literal_from : {x y : List ℕ} {c : Literal} → IsLiteral x y c → CanBeLiteral c
literal_from (number_spelled {n = n} correct front) = (n, correct, refl)
literal_from (string_spelled h) = tt
literal_from (true_spelled h) = tt
literal_from (false_spelled h) = tt
literal_from (null_spelled h) = tt

run_all : {is_member : ℕ → Bool} {x y s : List ℕ} → Run is_member x y s → list_all is_member s ≡ true
run_all run_ends = refl
run_all (run_goes_on h more) = and_from _ _ h (run_all more)

function_from : {x y f : List ℕ} → FunctionName x y f → IsFunctionName f
function_from (function_name h run) = (h, run_all run)

before_some : (s : Step) (steps : Option (List Step)) → is_some steps ≡ true → is_some (with_first (Some s) steps) ≡ true
before_some s None h = h
before_some s (Some steps) h = refl

one_singular : {x y : List ℕ} {s : Segment} → SingularSegment x y s → (ss : Segments) → is_some (singular_steps ss) ≡ true → is_some (singular_steps (segment s ss)) ≡ true
one_singular (bracketed_name h) ss more = before_some _ (singular_steps ss) more
one_singular (pointed_name h) ss more = before_some _ (singular_steps ss) more
one_singular (bracketed_index h) ss more = before_some _ (singular_steps ss) more

singular_from : {x y : List ℕ} {ss : Segments} → SingularSegments x y ss → is_some (singular_steps ss) ≡ true
singular_from singular_end = refl
singular_from (singular_goes_on {ss = ss} blank s more) = one_singular s ss (singular_from more)

negated_from : (b : Bool) (l : Logical) → CanBeLogical l → CanBeLogical (negated_if b l)
negated_from true l h = h
negated_from false l h = h

mutual
  segments_from : {x y : List ℕ} {ss : Segments} → IsSegments x y ss → CanBeSegments ss
  segments_from segments_end = tt
  segments_from (segments_go_on blank s more) = (segment_from s, segments_from more)

  segment_from : {x y : List ℕ} {s : Segment} → IsSegment x y s → CanBeSegment s
  segment_from (child_brackets h) = brackets_from h
  segment_from child_wildcard = (tt, tt)
  segment_from (child_name h) = (tt, tt)
  segment_from (descendant_brackets h) = brackets_from h
  segment_from descendant_wildcard = (tt, tt)
  segment_from (descendant_name h) = (tt, tt)

  brackets_from : {x y : List ℕ} {ss : Selectors} → IsBrackets x y ss → CanBeSelectors ss
  brackets_from (brackets blank s more end) = (selector_from s, selectors_from more)

  selectors_from : {x y : List ℕ} {ss : Selectors} → IsMoreSelectors x y ss → CanBeMoreSelectors ss
  selectors_from selectors_end = tt
  selectors_from (selectors_go_on before after s more) = (selector_from s, selectors_from more)

  selector_from : {x y : List ℕ} {s : Selector} → IsSelector x y s → CanBeSelector s
  selector_from (quoted_name h) = tt
  selector_from wildcard_mark = tt
  selector_from (index_int h) = tt
  selector_from (slice_parts first blank last step) = tt
  selector_from (filter_mark blank h) = logical_from h

  logical_from : {x y : List ℕ} {b : Bool} {l : Logical} → IsLogical x y b l → CanBeLogical l
  logical_from (some_and first or_ends) = and_from_text first
  logical_from (some_and first (or_goes_on before after second more)) = (tt, (and_from_text first, (and_from_text second, or_from more)))

  or_from : {x y : List ℕ} {ls : Logicals} → IsMoreOr x y ls → CanBeLogicals ls
  or_from or_ends = tt
  or_from (or_goes_on before after l more) = (and_from_text l, or_from more)

  and_from_text : {x y : List ℕ} {b : Bool} {l : Logical} → IsAnd x y b l → CanBeLogical l
  and_from_text (some_basic first and_ends) = basic_from first
  and_from_text (some_basic first (and_goes_on before after second more)) = (tt, (basic_from first, (basic_from second, more_and_from more)))

  more_and_from : {x y : List ℕ} {ls : Logicals} → IsMoreAnd x y ls → CanBeLogicals ls
  more_and_from and_ends = tt
  more_and_from (and_goes_on before after l more) = (basic_from l, more_and_from more)

  basic_from : {x y : List ℕ} {b : Bool} {l : Logical} → IsBasic x y b l → CanBeLogical l
  basic_from (parens {b = b} {l = l} sign blank h end) = negated_from b l (logical_from h)
  basic_from (comparison a before op after b) = (comparable_from a, comparable_from b)
  basic_from (query_test {b = b} {p = p} sign h) = negated_from b _ (query_from h)
  basic_from (call_test {b = b} {c = c} sign h) = negated_from b _ (call_from h)

  query_from : {x y : List ℕ} {p : Path} → IsQuery x y p → CanBeFilterQuery p
  query_from (filter_query origin h) = segments_from h

  comparable_from : {x y : List ℕ} {c : Comparable} → IsComparable x y c → CanBeComparable c
  comparable_from (literal_side h) = literal_from h
  comparable_from (singular_side origin h) = singular_from h
  comparable_from (call_side h) = call_from h

  call_from : {x y : List ℕ} {c : Call} → IsCall x y c → CanBeCall c
  call_from (call_without f blank) = (function_from f, tt)
  call_from (call_with f blank a more end) = (function_from f, (argument_from a, arguments_from more))

  arguments_from : {x y : List ℕ} {args : Arguments} → IsMoreArguments x y args → CanBeArguments args
  arguments_from arguments_end = tt
  arguments_from (arguments_go_on before after a more) = (argument_from a, arguments_from more)

  argument_from : {x y : List ℕ} {a : Argument} → IsArgument x y a → CanBeArgument a
  argument_from (literal_argument h) = literal_from h
  argument_from (query_argument h) = query_from h
  argument_from (call_argument h) = call_from h
  argument_from (logical_argument h) = logical_from h

pub query_sayable : (x : List ℕ) (q : Segments) → SpellsQuery x q → CanBeSegments q
query_sayable x q (query h) = segments_from h
