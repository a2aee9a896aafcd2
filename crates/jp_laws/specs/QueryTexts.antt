-- A printer of queries, to be read back: the text of a query, and which syntax trees have one (RFC 9535, appendix A).
use Rattle.std.specs.Prelude.{◌≡◌, ℕ, ⊤, List, [], ◌∷◌, ◌++◌, ℤ, IsTrue, Option, Some, None, codes}
use Rattle.std.specs.List.{list_all}
use Rattle.jp_model.specs.Characters.{is_lower}
use Rattle.jp_model.specs.Json.Numbers.{Numeral, IsNumeral, numeral_bytes}
use Rattle.jp_model.specs.Meaning.Paths.{quoted, literal_text, op_text}
use Rattle.jp_model.specs.Query.Spelling.{is_function_scalar}
use Rattle.jp_model.specs.Query.Syntax.{Origin, root, current, Literal, number_literal, Segment, child_segment, descendant_segment, Segments, no_segments, segment, Selector, name_selector, wildcard_selector, index_selector, slice_selector, filter_selector, Selectors, no_selectors, selector, Logical, or_all, and_all, negated, compare, exists, test, Logicals, no_logicals, logical, Comparable, constant, single, result, Argument, constant_argument, nodes_argument, condition, result_argument, Arguments, no_arguments, argument, Path, path, Call, call}
use Rattle.jp_model.specs.Query.Typing.{is_singular_path}
use Rattle.jp_laws.specs.Digits.{signed_digits}

-- ---- the text

-- a text in brackets
abbrev pub in_brackets : List ℕ → List ℕ
in_brackets text = 0x5B ∷ (text ++ 0x5D ∷ [])

-- a text in parentheses
abbrev pub in_parentheses : List ℕ → List ℕ
in_parentheses text = 0x28 ∷ (text ++ 0x29 ∷ [])

-- the bound of a slice, where there is one (section 2.3.4.1)
abbrev pub bound_text : Option ℤ → List ℕ
bound_text None = []
bound_text (Some i) = signed_digits i

-- the step of a slice with its colon, where there is one (section 2.3.4.1)
abbrev pub step_text : Option ℤ → List ℕ
step_text None = []
step_text (Some i) = 0x3A ∷ signed_digits i

-- `$` or `@`
abbrev pub origin_text : Origin → List ℕ
origin_text root = codes "$"
origin_text current = codes "@"

abbrev mutual
  -- segments (section 2.1.1)
  pub segments_text : Segments → List ℕ
  segments_text no_segments = []
  segments_text (segment s ss) = segment_text s ++ segments_text ss

  -- a segment, with brackets (section 2.5)
  pub segment_text : Segment → List ℕ
  segment_text (child_segment ss) = in_brackets (selectors_text ss)
  segment_text (descendant_segment ss) = codes ".." ++ in_brackets (selectors_text ss)

  -- selectors, with commas between them (section 2.5.1.1)
  pub selectors_text : Selectors → List ℕ
  selectors_text no_selectors = []
  selectors_text (selector s ss) = selector_text s ++ more_selectors_text ss

  -- the selectors after the first
  pub more_selectors_text : Selectors → List ℕ
  more_selectors_text no_selectors = []
  more_selectors_text (selector s ss) = 0x2C ∷ (selector_text s ++ more_selectors_text ss)

  -- a selector; a name stands between single quotes (section 2.3)
  pub selector_text : Selector → List ℕ
  selector_text (name_selector x) = quoted x
  selector_text wildcard_selector = codes "*"
  selector_text (index_selector i) = signed_digits i
  selector_text (slice_selector first last step) = bound_text first ++ 0x3A ∷ (bound_text last ++ step_text step)
  selector_text (filter_selector l) = 0x3F ∷ logical_text l

  -- a logical expression; its parts stand in parentheses (section 2.3.5.1)
  pub logical_text : Logical → List ℕ
  logical_text (or_all ls) = logicals_text (codes "||") ls
  logical_text (and_all ls) = logicals_text (codes "&&") ls
  logical_text (negated l) = 0x21 ∷ in_parentheses (logical_text l)
  logical_text (compare a op b) = comparable_text a ++ (op_text op ++ comparable_text b)
  logical_text (exists p) = filter_query_text p
  logical_text (test c) = call_text c

  -- its parts, with an operator between them
  pub logicals_text : List ℕ → Logicals → List ℕ
  logicals_text operator no_logicals = []
  logicals_text operator (logical l ls) = in_parentheses (logical_text l) ++ more_logicals_text operator ls

  -- the parts after the first
  pub more_logicals_text : List ℕ → Logicals → List ℕ
  more_logicals_text operator no_logicals = []
  more_logicals_text operator (logical l ls) = operator ++ (in_parentheses (logical_text l) ++ more_logicals_text operator ls)

  -- a side of a comparison (section 2.3.5.1)
  pub comparable_text : Comparable → List ℕ
  comparable_text (constant c) = literal_text c
  comparable_text (single p) = filter_query_text p
  comparable_text (result c) = call_text c

  -- a query within a filter (section 2.3.5.1)
  pub filter_query_text : Path → List ℕ
  filter_query_text (path o ss) = origin_text o ++ segments_text ss

  -- a call (section 2.4)
  pub call_text : Call → List ℕ
  call_text (call f args) = f ++ in_parentheses (arguments_text args)

  -- arguments, with commas between them (section 2.4)
  pub arguments_text : Arguments → List ℕ
  arguments_text no_arguments = []
  arguments_text (argument a args) = argument_text a ++ more_arguments_text args

  -- the arguments after the first
  pub more_arguments_text : Arguments → List ℕ
  more_arguments_text no_arguments = []
  more_arguments_text (argument a args) = 0x2C ∷ (argument_text a ++ more_arguments_text args)

  -- an argument; a condition stands in parentheses, since without them `@.a` is a query and `f()` a call (section 2.4)
  pub argument_text : Argument → List ℕ
  argument_text (constant_argument c) = literal_text c
  argument_text (nodes_argument p) = filter_query_text p
  argument_text (condition l) = in_parentheses (logical_text l)
  argument_text (result_argument c) = call_text c

-- the text of a query (section 2.1.1)
abbrev pub query_text : Segments → List ℕ
query_text q = 0x24 ∷ segments_text q

-- ---- which syntax trees have one

-- function-name (section 2.4)
abbrev pub IsFunctionName : List ℕ → Type 0
IsFunctionName [] = ⊥
IsFunctionName (c ∷ f) = IsTrue (is_lower c) × IsTrue (list_all is_function_scalar f)

-- a number is spelled as one (section 2.3.5.1)
abbrev pub CanBeLiteral : Literal → Type 0
CanBeLiteral (number_literal x) = (n : Numeral) × IsNumeral n × (x ≡ numeral_bytes n)
CanBeLiteral _ = ⊤

-- there are two parts or more
abbrev pub AreSeveral : Logicals → Type 0
AreSeveral (logical l (logical m ls)) = ⊤
AreSeveral _ = ⊥

abbrev mutual
  -- each segment
  pub CanBeSegments : Segments → Type 0
  CanBeSegments no_segments = ⊤
  CanBeSegments (segment s ss) = CanBeSegment s × CanBeSegments ss

  -- a segment has a selector
  pub CanBeSegment : Segment → Type 0
  CanBeSegment (child_segment ss) = CanBeSelectors ss
  CanBeSegment (descendant_segment ss) = CanBeSelectors ss

  -- one selector or more
  pub CanBeSelectors : Selectors → Type 0
  CanBeSelectors no_selectors = ⊥
  CanBeSelectors (selector s ss) = CanBeSelector s × CanBeMoreSelectors ss

  -- the selectors after the first
  pub CanBeMoreSelectors : Selectors → Type 0
  CanBeMoreSelectors no_selectors = ⊤
  CanBeMoreSelectors (selector s ss) = CanBeSelector s × CanBeMoreSelectors ss

  -- a filter, and any other selector as it is
  pub CanBeSelector : Selector → Type 0
  CanBeSelector (filter_selector l) = CanBeLogical l
  CanBeSelector _ = ⊤

  -- an expression; `||` and `&&` stand between two parts or more
  pub CanBeLogical : Logical → Type 0
  CanBeLogical (or_all ls) = AreSeveral ls × CanBeLogicals ls
  CanBeLogical (and_all ls) = AreSeveral ls × CanBeLogicals ls
  CanBeLogical (negated l) = CanBeLogical l
  CanBeLogical (compare a op b) = CanBeComparable a × CanBeComparable b
  CanBeLogical (exists p) = CanBeFilterQuery p
  CanBeLogical (test c) = CanBeCall c

  -- each part
  pub CanBeLogicals : Logicals → Type 0
  CanBeLogicals no_logicals = ⊤
  CanBeLogicals (logical l ls) = CanBeLogical l × CanBeLogicals ls

  -- a query in a comparison is singular
  pub CanBeComparable : Comparable → Type 0
  CanBeComparable (constant c) = CanBeLiteral c
  CanBeComparable (single p) = IsTrue (is_singular_path p)
  CanBeComparable (result c) = CanBeCall c

  -- a query within a filter
  pub CanBeFilterQuery : Path → Type 0
  CanBeFilterQuery (path o ss) = CanBeSegments ss

  -- a call of any function
  pub CanBeCall : Call → Type 0
  CanBeCall (call f args) = IsFunctionName f × CanBeArguments args

  -- each argument
  pub CanBeArguments : Arguments → Type 0
  CanBeArguments no_arguments = ⊤
  CanBeArguments (argument a args) = CanBeArgument a × CanBeArguments args

  -- an argument
  pub CanBeArgument : Argument → Type 0
  CanBeArgument (constant_argument c) = CanBeLiteral c
  CanBeArgument (nodes_argument p) = CanBeFilterQuery p
  CanBeArgument (condition l) = CanBeLogical l
  CanBeArgument (result_argument c) = CanBeCall c
