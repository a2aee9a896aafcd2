-- Which scalars spell which syntax tree (RFC 9535, section 2 and appendix A). Each relation leads from a place in the
-- query to a later one: what stands from x up to y derives the rule and has the tree. A rule's constructor is an
-- alternative of the grammar.
use Rattle.std.specs.Prelude.{◌≡◌, ◌≢◌, ℕ, ℤ, pos, neg_ℤ, List, [], ◌∷◌, ◌++◌, Bool, true, false, ◌&&◌, ◌||◌, not, nat_le, ◌==◌, IsTrue, IsFalse, Option, Some, None, codes}
use Rattle.jp_model.specs.Characters.{is_white, is_digit, is_lower, is_alpha, digits_value, four_digits, is_surrogate, is_high_surrogate, is_low_surrogate, pair_value}
use Rattle.jp_model.specs.Json.Numbers.{Numeral, IsNumeral, numeral_bytes}
use Rattle.jp_model.specs.Query.Syntax.{CompareOp, equal, not_equal, less, less_equal, greater, greater_equal, Origin, root, current, Literal, null_literal, false_literal, true_literal, number_literal, string_literal, Segment, child_segment, descendant_segment, Segments, no_segments, segment, Selector, name_selector, wildcard_selector, index_selector, slice_selector, filter_selector, Selectors, no_selectors, selector, Logical, or_all, and_all, negated, compare, exists, test, Logicals, no_logicals, logical, Comparable, constant, single, result, Argument, constant_argument, nodes_argument, condition, result_argument, Arguments, no_arguments, argument, Path, path, Call, call}

-- what stands from x up to y is these scalars
abbrev pub Front : List ℕ → List ℕ → List ℕ → Type 0
Front s x y = x ≡ s ++ y

-- name-first (section 2.5.1.1)
abbrev pub is_name_first : ℕ → Bool
is_name_first c = is_alpha c || c == 95 || nat_le 128 c

-- name-char (section 2.5.1.1)
abbrev pub is_name_scalar : ℕ → Bool
is_name_scalar c = is_name_first c || is_digit c

-- function-name-char (section 2.4)
abbrev pub is_function_scalar : ℕ → Bool
is_function_scalar c = is_lower c || c == 95 || is_digit c

-- unescaped: neither a quote nor a backslash, from U+0020 on (section 2.3.1.1)
abbrev pub is_plain : ℕ → Bool
is_plain c = nat_le 32 c && not (c == 34) && not (c == 39) && not (c == 92)

-- *member: some scalars of a class, one after another, and maybe none
pub data Run (is_member : ℕ → Bool) : List ℕ → List ℕ → List ℕ → Type 0 where
  run_ends : {x : List ℕ} → Run is_member x x []
  run_goes_on : {c : ℕ} {x y s : List ℕ} → IsTrue (is_member c) → Run is_member x y s → Run is_member (c ∷ x) y (c ∷ s)

-- S (section 2.1.1)
abbrev pub Blanks : List ℕ → List ℕ → Type 0
Blanks x y = (s : List ℕ) × Run is_white x y s

-- member-name-shorthand (section 2.5.1.1)
pub data Shorthand : List ℕ → List ℕ → List ℕ → Type 0 where
  shorthand : {c : ℕ} {x y s : List ℕ} → IsTrue (is_name_first c) → Run is_name_scalar x y s → Shorthand (c ∷ x) y (c ∷ s)

-- function-name: function-name-first, a small letter, and function-name-chars (section 2.4)
pub data FunctionName : List ℕ → List ℕ → List ℕ → Type 0 where
  function_name : {c : ℕ} {x y s : List ℕ} → IsTrue (is_lower c) → Run is_function_scalar x y s → FunctionName (c ∷ x) y (c ∷ s)

-- DIGIT1 *DIGIT (section 2.3.3.1)
pub data Positive : List ℕ → List ℕ → List ℕ → Type 0 where
  positive : {c : ℕ} {x y s : List ℕ} → IsTrue (is_digit c) → c ≢ 48 → Run is_digit x y s → Positive (c ∷ x) y (c ∷ s)

-- int, with its value, which has no bound here (section 2.3.3.1)
pub data Int : List ℕ → List ℕ → ℤ → Type 0 where
  zero_int : {x : List ℕ} → Int (48 ∷ x) x (pos 0)
  positive_int : {x y s : List ℕ} → Positive x y s → Int x y (pos (digits_value s))
  negative_int : {x y s : List ℕ} → Positive x y s → Int (45 ∷ x) y (neg_ℤ (pos (digits_value s)))

-- 4HEXDIG, with their value (section 2.3.1.1)
pub data Hex4 : List ℕ → List ℕ → ℕ → Type 0 where
  hex4 : {a b c d n : ℕ} {x : List ℕ} → four_digits a b c d ≡ Some n → Hex4 (a ∷ b ∷ c ∷ d ∷ x) x n

-- escapable, which stands after a backslash, with the scalar that it spells; hexchar is its last alternative (section 2.3.1.1)
pub data Escape : List ℕ → List ℕ → ℕ → Type 0 where
  escaped_b : {x : List ℕ} → Escape (98 ∷ x) x 8
  escaped_f : {x : List ℕ} → Escape (102 ∷ x) x 12
  escaped_n : {x : List ℕ} → Escape (110 ∷ x) x 10
  escaped_r : {x : List ℕ} → Escape (114 ∷ x) x 13
  escaped_t : {x : List ℕ} → Escape (116 ∷ x) x 9
  escaped_slash : {x : List ℕ} → Escape (47 ∷ x) x 47
  escaped_backslash : {x : List ℕ} → Escape (92 ∷ x) x 92
  escaped_scalar : {x y : List ℕ} {n : ℕ} → Hex4 x y n → IsFalse (is_surrogate n) → Escape (117 ∷ x) y n
  escaped_pair : {x y z : List ℕ} {h l : ℕ} → Hex4 x (92 ∷ 117 ∷ y) h → IsTrue (is_high_surrogate h) → Hex4 y z l → IsTrue (is_low_surrogate l) → Escape (117 ∷ x) z (pair_value h l)

-- *double-quoted or *single-quoted: what stands between two quotes of a kind, with the second one and the scalars that it
-- spells (section 2.3.1.1)
pub data Quoted (quote : ℕ) : List ℕ → List ℕ → List ℕ → Type 0 where
  closing_quote : {x : List ℕ} → Quoted quote (quote ∷ x) x []
  plain : {c : ℕ} {x y s : List ℕ} → IsTrue (is_plain c) → Quoted quote x y s → Quoted quote (c ∷ x) y (c ∷ s)
  other_quote : {c : ℕ} {x y s : List ℕ} → IsTrue (c == 34 || c == 39) → c ≢ quote → Quoted quote x y s → Quoted quote (c ∷ x) y (c ∷ s)
  escaped_quote : {x y s : List ℕ} → Quoted quote x y s → Quoted quote (92 ∷ quote ∷ x) y (quote ∷ s)
  escaped : {c : ℕ} {x y z s : List ℕ} → Escape x y c → Quoted quote y z s → Quoted quote (92 ∷ x) z (c ∷ s)

-- string-literal (section 2.3.1.1)
pub data StringLiteral : List ℕ → List ℕ → List ℕ → Type 0 where
  double_quoted : {x y s : List ℕ} → Quoted 34 x y s → StringLiteral (34 ∷ x) y s
  single_quoted : {x y s : List ℕ} → Quoted 39 x y s → StringLiteral (39 ∷ x) y s

-- literal: number, string-literal, true, false or null (section 2.3.5.1)
pub data IsLiteral : List ℕ → List ℕ → Literal → Type 0 where
  number_spelled : {n : Numeral} {x y : List ℕ} → IsNumeral n → Front (numeral_bytes n) x y → IsLiteral x y (number_literal (numeral_bytes n))
  string_spelled : {x y s : List ℕ} → StringLiteral x y s → IsLiteral x y (string_literal s)
  true_spelled : {x y : List ℕ} → Front (codes "true") x y → IsLiteral x y true_literal
  false_spelled : {x y : List ℕ} → Front (codes "false") x y → IsLiteral x y false_literal
  null_spelled : {x y : List ℕ} → Front (codes "null") x y → IsLiteral x y null_literal

-- comparison-op (section 2.3.5.1)
pub data IsOp : List ℕ → List ℕ → CompareOp → Type 0 where
  equal_op : {x : List ℕ} → IsOp (61 ∷ 61 ∷ x) x equal
  not_equal_op : {x : List ℕ} → IsOp (33 ∷ 61 ∷ x) x not_equal
  less_equal_op : {x : List ℕ} → IsOp (60 ∷ 61 ∷ x) x less_equal
  greater_equal_op : {x : List ℕ} → IsOp (62 ∷ 61 ∷ x) x greater_equal
  less_op : {x : List ℕ} → IsOp (60 ∷ x) x less
  greater_op : {x : List ℕ} → IsOp (62 ∷ x) x greater

-- current-node-identifier or root-identifier (sections 2.3.5.1 and 2.2.1)
pub data IsOrigin : List ℕ → List ℕ → Origin → Type 0 where
  at_mark : {x : List ℕ} → IsOrigin (64 ∷ x) x current
  dollar_mark : {x : List ℕ} → IsOrigin (36 ∷ x) x root

-- [start S] and [end S], each of which is [int S] (section 2.3.4.1)
pub data Bound : List ℕ → List ℕ → Option ℤ → Type 0 where
  no_bound : {x : List ℕ} → Bound x x None
  bound : {x y z : List ℕ} {i : ℤ} → Int x y i → Blanks y z → Bound x z (Some i)

-- [":" [S step]], where step is int (section 2.3.4.1)
pub data StepPart : List ℕ → List ℕ → Option ℤ → Type 0 where
  no_step_part : {x : List ℕ} → StepPart x x None
  colon_alone : {x : List ℕ} → StepPart (58 ∷ x) x None
  step_part : {x y z : List ℕ} {i : ℤ} → Blanks x y → Int y z i → StepPart (58 ∷ x) z (Some i)

-- name-segment or index-segment, without blanks inside its brackets (section 2.3.5.1)
pub data SingularSegment : List ℕ → List ℕ → Segment → Type 0 where
  bracketed_name : {x y s : List ℕ} → StringLiteral x (93 ∷ y) s → SingularSegment (91 ∷ x) y (child_segment (selector (name_selector s) no_selectors))
  pointed_name : {x y s : List ℕ} → Shorthand x y s → SingularSegment (46 ∷ x) y (child_segment (selector (name_selector s) no_selectors))
  bracketed_index : {x y : List ℕ} {i : ℤ} → Int x (93 ∷ y) i → SingularSegment (91 ∷ x) y (child_segment (selector (index_selector i) no_selectors))

-- singular-query-segments (section 2.3.5.1)
pub data SingularSegments : List ℕ → List ℕ → Segments → Type 0 where
  singular_end : {x : List ℕ} → SingularSegments x x no_segments
  singular_goes_on : {x y z w : List ℕ} {s : Segment} {ss : Segments} → Blanks x y → SingularSegment y z s → SingularSegments z w ss → SingularSegments x w (segment s ss)

-- [logical-not-op S], and whether it is there (section 2.3.5.1)
pub data Negation : List ℕ → List ℕ → Bool → Type 0 where
  no_negation : {x : List ℕ} → Negation x x false
  negation : {x y : List ℕ} → Blanks x y → Negation (33 ∷ x) y true

-- the tree of a logical-or-expr from its parts: one part stands for itself
abbrev pub or_of : Logical → Logicals → Logical
or_of l no_logicals = l
or_of l (logical m ms) = or_all (logical l (logical m ms))

-- the same of a logical-and-expr
abbrev pub and_of : Logical → Logicals → Logical
and_of l no_logicals = l
and_of l (logical m ms) = and_all (logical l (logical m ms))

-- with `!` before it, or without
abbrev pub negated_if : Bool → Logical → Logical
negated_if true l = negated l
negated_if false l = l

-- no part follows
abbrev pub is_alone : Logicals → Bool
is_alone no_logicals = true
is_alone (logical l ls) = false

mutual
  -- segments (section 2.1.1)
  pub data IsSegments : List ℕ → List ℕ → Segments → Type 0 where
    segments_end : {x : List ℕ} → IsSegments x x no_segments
    segments_go_on : {x y z w : List ℕ} {s : Segment} {ss : Segments} → Blanks x y → IsSegment y z s → IsSegments z w ss → IsSegments x w (segment s ss)

  -- segment: child-segment or descendant-segment (sections 2.5.1.1 and 2.5.2.1)
  pub data IsSegment : List ℕ → List ℕ → Segment → Type 0 where
    child_brackets : {x y : List ℕ} {ss : Selectors} → IsBrackets x y ss → IsSegment x y (child_segment ss)
    child_wildcard : {x : List ℕ} → IsSegment (46 ∷ 42 ∷ x) x (child_segment (selector wildcard_selector no_selectors))
    child_name : {x y s : List ℕ} → Shorthand x y s → IsSegment (46 ∷ x) y (child_segment (selector (name_selector s) no_selectors))
    descendant_brackets : {x y : List ℕ} {ss : Selectors} → IsBrackets x y ss → IsSegment (46 ∷ 46 ∷ x) y (descendant_segment ss)
    descendant_wildcard : {x : List ℕ} → IsSegment (46 ∷ 46 ∷ 42 ∷ x) x (descendant_segment (selector wildcard_selector no_selectors))
    descendant_name : {x y s : List ℕ} → Shorthand x y s → IsSegment (46 ∷ 46 ∷ x) y (descendant_segment (selector (name_selector s) no_selectors))

  -- bracketed-selection (section 2.5.1.1)
  pub data IsBrackets : List ℕ → List ℕ → Selectors → Type 0 where
    brackets : {x y z w v : List ℕ} {s : Selector} {ss : Selectors} → Blanks x y → IsSelector y z s → IsMoreSelectors z w ss → Blanks w (93 ∷ v) → IsBrackets (91 ∷ x) v (selector s ss)

  -- the selectors of a bracketed-selection after the first (section 2.5.1.1)
  pub data IsMoreSelectors : List ℕ → List ℕ → Selectors → Type 0 where
    selectors_end : {x : List ℕ} → IsMoreSelectors x x no_selectors
    selectors_go_on : {x y z w v : List ℕ} {s : Selector} {ss : Selectors} → Blanks x (44 ∷ y) → Blanks y z → IsSelector z w s → IsMoreSelectors w v ss → IsMoreSelectors x v (selector s ss)

  -- selector: name-selector, wildcard-selector, index-selector, slice-selector or filter-selector (section 2.3)
  pub data IsSelector : List ℕ → List ℕ → Selector → Type 0 where
    quoted_name : {x y s : List ℕ} → StringLiteral x y s → IsSelector x y (name_selector s)
    wildcard_mark : {x : List ℕ} → IsSelector (42 ∷ x) x wildcard_selector
    index_int : {x y : List ℕ} {i : ℤ} → Int x y i → IsSelector x y (index_selector i)
    slice_parts : {x y z w v : List ℕ} {first last step : Option ℤ} → Bound x (58 ∷ y) first → Blanks y z → Bound z w last → StepPart w v step → IsSelector x v (slice_selector first last step)
    filter_mark : {x y z : List ℕ} {bare : Bool} {l : Logical} → Blanks x y → IsLogical y z bare l → IsSelector (63 ∷ x) z (filter_selector l)

  -- logical-expr, which is logical-or-expr; the flag says that it is a query or a call alone, with neither `!` nor
  -- parentheses (section 2.3.5.1)
  pub data IsLogical : List ℕ → List ℕ → Bool → Logical → Type 0 where
    some_and : {x y z : List ℕ} {bare : Bool} {l : Logical} {ls : Logicals} → IsAnd x y bare l → IsMoreOr y z ls → IsLogical x z (bare && is_alone ls) (or_of l ls)

  -- the parts after the first `||` (section 2.3.5.1)
  pub data IsMoreOr : List ℕ → List ℕ → Logicals → Type 0 where
    or_ends : {x : List ℕ} → IsMoreOr x x no_logicals
    or_goes_on : {x y z w v : List ℕ} {bare : Bool} {l : Logical} {ls : Logicals} → Blanks x (124 ∷ 124 ∷ y) → Blanks y z → IsAnd z w bare l → IsMoreOr w v ls → IsMoreOr x v (logical l ls)

  -- logical-and-expr (section 2.3.5.1)
  pub data IsAnd : List ℕ → List ℕ → Bool → Logical → Type 0 where
    some_basic : {x y z : List ℕ} {bare : Bool} {l : Logical} {ls : Logicals} → IsBasic x y bare l → IsMoreAnd y z ls → IsAnd x z (bare && is_alone ls) (and_of l ls)

  -- the parts after the first `&&` (section 2.3.5.1)
  pub data IsMoreAnd : List ℕ → List ℕ → Logicals → Type 0 where
    and_ends : {x : List ℕ} → IsMoreAnd x x no_logicals
    and_goes_on : {x y z w v : List ℕ} {bare : Bool} {l : Logical} {ls : Logicals} → Blanks x (38 ∷ 38 ∷ y) → Blanks y z → IsBasic z w bare l → IsMoreAnd w v ls → IsMoreAnd x v (logical l ls)

  -- basic-expr: paren-expr, comparison-expr or test-expr (section 2.3.5.1)
  pub data IsBasic : List ℕ → List ℕ → Bool → Logical → Type 0 where
    parens : {x y z w v : List ℕ} {b bare : Bool} {l : Logical} → Negation x (40 ∷ y) b → Blanks y z → IsLogical z w bare l → Blanks w (41 ∷ v) → IsBasic x v false (negated_if b l)
    comparison : {x y z w v u : List ℕ} {a b : Comparable} {op : CompareOp} → IsComparable x y a → Blanks y z → IsOp z w op → Blanks w v → IsComparable v u b → IsBasic x u false (compare a op b)
    query_test : {x y z : List ℕ} {b : Bool} {p : Path} → Negation x y b → IsQuery y z p → IsBasic x z (not b) (negated_if b (exists p))
    call_test : {x y z : List ℕ} {b : Bool} {c : Call} → Negation x y b → IsCall y z c → IsBasic x z (not b) (negated_if b (test c))

  -- filter-query: rel-query or jsonpath-query (section 2.3.5.1)
  pub data IsQuery : List ℕ → List ℕ → Path → Type 0 where
    filter_query : {x y z : List ℕ} {o : Origin} {ss : Segments} → IsOrigin x y o → IsSegments y z ss → IsQuery x z (path o ss)

  -- comparable: literal, singular-query or function-expr (section 2.3.5.1)
  pub data IsComparable : List ℕ → List ℕ → Comparable → Type 0 where
    literal_side : {x y : List ℕ} {c : Literal} → IsLiteral x y c → IsComparable x y (constant c)
    singular_side : {x y z : List ℕ} {o : Origin} {ss : Segments} → IsOrigin x y o → SingularSegments y z ss → IsComparable x z (single (path o ss))
    call_side : {x y : List ℕ} {c : Call} → IsCall x y c → IsComparable x y (result c)

  -- function-expr (section 2.4)
  pub data IsCall : List ℕ → List ℕ → Call → Type 0 where
    call_without : {f x y z : List ℕ} → FunctionName x (40 ∷ y) f → Blanks y (41 ∷ z) → IsCall x z (call f no_arguments)
    call_with : {f x y z w v u : List ℕ} {a : Argument} {more : Arguments} → FunctionName x (40 ∷ y) f → Blanks y z → IsArgument z w a → IsMoreArguments w v more → Blanks v (41 ∷ u) → IsCall x u (call f (argument a more))

  -- the arguments after the first (section 2.4)
  pub data IsMoreArguments : List ℕ → List ℕ → Arguments → Type 0 where
    arguments_end : {x : List ℕ} → IsMoreArguments x x no_arguments
    arguments_go_on : {x y z w v : List ℕ} {a : Argument} {more : Arguments} → Blanks x (44 ∷ y) → Blanks y z → IsArgument z w a → IsMoreArguments w v more → IsMoreArguments x v (argument a more)

  -- function-argument: a bare literal, query or call is read as that, anything else as a logical expression (section 2.4;
  -- profile)
  pub data IsArgument : List ℕ → List ℕ → Argument → Type 0 where
    literal_argument : {x y : List ℕ} {c : Literal} → IsLiteral x y c → IsArgument x y (constant_argument c)
    query_argument : {x y : List ℕ} {p : Path} → IsQuery x y p → IsArgument x y (nodes_argument p)
    call_argument : {x y : List ℕ} {c : Call} → IsCall x y c → IsArgument x y (result_argument c)
    logical_argument : {x y : List ℕ} {l : Logical} → IsLogical x y false l → IsArgument x y (condition l)

-- jsonpath-query: the whole of the scalars (section 2.1.1)
pub data SpellsQuery : List ℕ → Segments → Type 0 where
  query : {x : List ℕ} {ss : Segments} → IsSegments x [] ss → SpellsQuery (36 ∷ x) ss
