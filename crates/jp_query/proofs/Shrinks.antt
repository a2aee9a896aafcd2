-- What stands after a rule is no more than what stands before it, by each measure that a further scalar does not lower.
use Rattle.std.proofs.Common.{ℕ, ℤ, ◌≤◌, List, [], ◌∷◌, ◌++◌, Bool, Option, le_trans, le_refl, subst, sym, codes}
use Rattle.jp_model.specs.Json.Numbers.{numeral_bytes}
use Rattle.jp_model.specs.Query.Syntax.{CompareOp, Origin, Literal, Segment, Segments, Selector, Selectors, Logical, Logicals, Comparable, Argument, Arguments, Path, Call}
use Rattle.jp_model.specs.Query.Spelling.{Front, Run, run_ends, run_goes_on, Blanks, Shorthand, shorthand, FunctionName, function_name, Positive, positive, Int, zero_int, positive_int, negative_int, Hex4, hex4, Escape, escaped_b, escaped_f, escaped_n, escaped_r, escaped_t, escaped_slash, escaped_backslash, escaped_scalar, escaped_pair, Quoted, closing_quote, plain, other_quote, escaped_quote, escaped, StringLiteral, double_quoted, single_quoted, IsLiteral, number_spelled, string_spelled, true_spelled, false_spelled, null_spelled, IsOp, equal_op, not_equal_op, less_equal_op, greater_equal_op, less_op, greater_op, IsOrigin, at_mark, dollar_mark, Bound, no_bound, bound, StepPart, no_step_part, colon_alone, step_part, SingularSegment, bracketed_name, pointed_name, bracketed_index, SingularSegments, singular_end, singular_goes_on, Negation, no_negation, negation, IsSegments, segments_end, segments_go_on, IsSegment, child_brackets, child_wildcard, child_name, descendant_brackets, descendant_wildcard, descendant_name, IsBrackets, brackets, IsMoreSelectors, selectors_end, selectors_go_on, IsSelector, quoted_name, wildcard_mark, index_int, slice_parts, filter_mark, IsLogical, some_and, IsMoreOr, or_ends, or_goes_on, IsAnd, some_basic, IsMoreAnd, and_ends, and_goes_on, IsBasic, parens, comparison, query_test, call_test, IsQuery, filter_query, IsComparable, literal_side, singular_side, call_side, IsCall, call_without, call_with, IsMoreArguments, arguments_end, arguments_go_on, IsArgument, literal_argument, query_argument, call_argument, logical_argument}

module _ (f : List ℕ → ℕ) (grows : (c : ℕ) (x : List ℕ) → f x ≤ f (c ∷ x)) where
  pub run_shrinks : {m : ℕ → Bool} {x y s : List ℕ} → Run m x y s → f y ≤ f x
  run_shrinks run_ends = le_refl _
  run_shrinks (run_goes_on {c} {x} e more) = le_trans (run_shrinks more) (grows c x)

  pub blanks_shrink : {x y : List ℕ} → Blanks x y → f y ≤ f x
  blanks_shrink b = run_shrinks b.1

  front_shrinks : (s y : List ℕ) → f y ≤ f (s ++ y)
  front_shrinks [] y = le_refl _
  front_shrinks (c ∷ s) y = le_trans (front_shrinks s y) (grows c (s ++ y))

  behind_front : (s x y : List ℕ) → Front s x y → f y ≤ f x
  behind_front s x y e = subst (λ z. f y ≤ f z) (sym e) (front_shrinks s y)

  pub shorthand_shrinks : {x y s : List ℕ} → Shorthand x y s → f y ≤ f x
  shorthand_shrinks (shorthand {c} {x} e more) = le_trans (run_shrinks more) (grows c x)

  pub function_shrinks : {x y s : List ℕ} → FunctionName x y s → f y ≤ f x
  function_shrinks (function_name {c} {x} e more) = le_trans (run_shrinks more) (grows c x)

  positive_shrinks : {x y s : List ℕ} → Positive x y s → f y ≤ f x
  positive_shrinks (positive {c} {x} e g more) = le_trans (run_shrinks more) (grows c x)

  pub int_shrinks : {x y : List ℕ} {i : ℤ} → Int x y i → f y ≤ f x
  int_shrinks (zero_int {x}) = grows 48 x
  int_shrinks (positive_int p) = positive_shrinks p
  int_shrinks (negative_int {x} p) = le_trans (positive_shrinks p) (grows 45 x)

  hex4_shrinks : {x y : List ℕ} {n : ℕ} → Hex4 x y n → f y ≤ f x
  hex4_shrinks (hex4 {a} {b} {c} {d} {n} {x} e) = le_trans (grows d x) (le_trans (grows c (d ∷ x)) (le_trans (grows b (c ∷ d ∷ x)) (grows a (b ∷ c ∷ d ∷ x))))

  pub escape_shrinks : {x y : List ℕ} {n : ℕ} → Escape x y n → f y ≤ f x
  escape_shrinks (escaped_b {x}) = grows 98 x
  escape_shrinks (escaped_f {x}) = grows 102 x
  escape_shrinks (escaped_n {x}) = grows 110 x
  escape_shrinks (escaped_r {x}) = grows 114 x
  escape_shrinks (escaped_t {x}) = grows 116 x
  escape_shrinks (escaped_slash {x}) = grows 47 x
  escape_shrinks (escaped_backslash {x}) = grows 92 x
  escape_shrinks (escaped_scalar {x} h e) = le_trans (hex4_shrinks h) (grows 117 x)
  escape_shrinks (escaped_pair {x} {y} h e l g) = le_trans (hex4_shrinks l) (le_trans (grows 117 y) (le_trans (grows 92 (117 ∷ y)) (le_trans (hex4_shrinks h) (grows 117 x))))

  pub quoted_shrinks : {quote : ℕ} {x y s : List ℕ} → Quoted quote x y s → f y ≤ f x
  quoted_shrinks {quote} (closing_quote {x}) = grows quote x
  quoted_shrinks (plain {c} {x} e more) = le_trans (quoted_shrinks more) (grows c x)
  quoted_shrinks (other_quote {c} {x} e g more) = le_trans (quoted_shrinks more) (grows c x)
  quoted_shrinks {quote} (escaped_quote {x} more) = le_trans (quoted_shrinks more) (le_trans (grows quote x) (grows 92 (quote ∷ x)))
  quoted_shrinks (escaped {c} {x} e more) = le_trans (quoted_shrinks more) (le_trans (escape_shrinks e) (grows 92 x))

  pub string_shrinks : {x y s : List ℕ} → StringLiteral x y s → f y ≤ f x
  string_shrinks (double_quoted {x} q) = le_trans (quoted_shrinks q) (grows 34 x)
  string_shrinks (single_quoted {x} q) = le_trans (quoted_shrinks q) (grows 39 x)

  pub literal_shrinks : {x y : List ℕ} {c : Literal} → IsLiteral x y c → f y ≤ f x
  literal_shrinks (number_spelled {n} {x} {y} h e) = behind_front (numeral_bytes n) x y e
  literal_shrinks (string_spelled q) = string_shrinks q
  literal_shrinks (true_spelled {x} {y} e) = behind_front (codes "true") x y e
  literal_shrinks (false_spelled {x} {y} e) = behind_front (codes "false") x y e
  literal_shrinks (null_spelled {x} {y} e) = behind_front (codes "null") x y e

  pub op_shrinks : {x y : List ℕ} {op : CompareOp} → IsOp x y op → f y ≤ f x
  op_shrinks (equal_op {x}) = le_trans (grows 61 x) (grows 61 (61 ∷ x))
  op_shrinks (not_equal_op {x}) = le_trans (grows 61 x) (grows 33 (61 ∷ x))
  op_shrinks (less_equal_op {x}) = le_trans (grows 61 x) (grows 60 (61 ∷ x))
  op_shrinks (greater_equal_op {x}) = le_trans (grows 61 x) (grows 62 (61 ∷ x))
  op_shrinks (less_op {x}) = grows 60 x
  op_shrinks (greater_op {x}) = grows 62 x

  pub origin_shrinks : {x y : List ℕ} {o : Origin} → IsOrigin x y o → f y ≤ f x
  origin_shrinks (at_mark {x}) = grows 64 x
  origin_shrinks (dollar_mark {x}) = grows 36 x

  bound_shrinks : {x y : List ℕ} {b : Option ℤ} → Bound x y b → f y ≤ f x
  bound_shrinks no_bound = le_refl _
  bound_shrinks (bound i b) = le_trans (blanks_shrink b) (int_shrinks i)

  step_shrinks : {x y : List ℕ} {b : Option ℤ} → StepPart x y b → f y ≤ f x
  step_shrinks no_step_part = le_refl _
  step_shrinks (colon_alone {x}) = grows 58 x
  step_shrinks (step_part {x} b i) = le_trans (int_shrinks i) (le_trans (blanks_shrink b) (grows 58 x))

  singular_segment_shrinks : {x y : List ℕ} {s : Segment} → SingularSegment x y s → f y ≤ f x
  singular_segment_shrinks (bracketed_name {x} {y} q) = le_trans (grows 93 y) (le_trans (string_shrinks q) (grows 91 x))
  singular_segment_shrinks (pointed_name {x} n) = le_trans (shorthand_shrinks n) (grows 46 x)
  singular_segment_shrinks (bracketed_index {x} {y} i) = le_trans (grows 93 y) (le_trans (int_shrinks i) (grows 91 x))

  pub singular_shrinks : {x y : List ℕ} {ss : Segments} → SingularSegments x y ss → f y ≤ f x
  singular_shrinks singular_end = le_refl _
  singular_shrinks (singular_goes_on b s more) = le_trans (singular_shrinks more) (le_trans (singular_segment_shrinks s) (blanks_shrink b))

  pub negation_shrinks : {x y : List ℕ} {b : Bool} → Negation x y b → f y ≤ f x
  negation_shrinks no_negation = le_refl _
  negation_shrinks (negation {x} b) = le_trans (blanks_shrink b) (grows 33 x)

  mutual
    pub segments_shrink : {x y : List ℕ} {ss : Segments} → IsSegments x y ss → f y ≤ f x
    segments_shrink segments_end = le_refl _
    segments_shrink (segments_go_on b s more) = le_trans (segments_shrink more) (le_trans (segment_shrinks s) (blanks_shrink b))

    pub segment_shrinks : {x y : List ℕ} {s : Segment} → IsSegment x y s → f y ≤ f x
    segment_shrinks (child_brackets b) = brackets_shrink b
    segment_shrinks (child_wildcard {x}) = le_trans (grows 42 x) (grows 46 (42 ∷ x))
    segment_shrinks (child_name {x} n) = le_trans (shorthand_shrinks n) (grows 46 x)
    segment_shrinks (descendant_brackets {x} b) = le_trans (brackets_shrink b) (le_trans (grows 46 x) (grows 46 (46 ∷ x)))
    segment_shrinks (descendant_wildcard {x}) = le_trans (grows 42 x) (le_trans (grows 46 (42 ∷ x)) (grows 46 (46 ∷ 42 ∷ x)))
    segment_shrinks (descendant_name {x} n) = le_trans (shorthand_shrinks n) (le_trans (grows 46 x) (grows 46 (46 ∷ x)))

    pub brackets_shrink : {x y : List ℕ} {ss : Selectors} → IsBrackets x y ss → f y ≤ f x
    brackets_shrink (brackets {x} {y} {z} {w} {v} b s more e) = le_trans (grows 93 v) (le_trans (blanks_shrink e) (le_trans (more_selectors_shrink more) (le_trans (selector_shrinks s) (le_trans (blanks_shrink b) (grows 91 x)))))

    pub more_selectors_shrink : {x y : List ℕ} {ss : Selectors} → IsMoreSelectors x y ss → f y ≤ f x
    more_selectors_shrink selectors_end = le_refl _
    more_selectors_shrink (selectors_go_on {x} {y} b c s more) = le_trans (more_selectors_shrink more) (le_trans (selector_shrinks s) (le_trans (blanks_shrink c) (le_trans (grows 44 y) (blanks_shrink b))))

    pub selector_shrinks : {x y : List ℕ} {s : Selector} → IsSelector x y s → f y ≤ f x
    selector_shrinks (quoted_name q) = string_shrinks q
    selector_shrinks (wildcard_mark {x}) = grows 42 x
    selector_shrinks (index_int i) = int_shrinks i
    selector_shrinks (slice_parts {x} {y} a b c d) = le_trans (step_shrinks d) (le_trans (bound_shrinks c) (le_trans (blanks_shrink b) (le_trans (grows 58 y) (bound_shrinks a))))
    selector_shrinks (filter_mark {x} b l) = le_trans (logical_shrinks l) (le_trans (blanks_shrink b) (grows 63 x))

    pub logical_shrinks : {x y : List ℕ} {b : Bool} {l : Logical} → IsLogical x y b l → f y ≤ f x
    logical_shrinks (some_and a more) = le_trans (more_or_shrinks more) (and_shrinks a)

    pub more_or_shrinks : {x y : List ℕ} {ls : Logicals} → IsMoreOr x y ls → f y ≤ f x
    more_or_shrinks or_ends = le_refl _
    more_or_shrinks (or_goes_on {x} {y} b c a more) = le_trans (more_or_shrinks more) (le_trans (and_shrinks a) (le_trans (blanks_shrink c) (le_trans (grows 124 y) (le_trans (grows 124 (124 ∷ y)) (blanks_shrink b)))))

    pub and_shrinks : {x y : List ℕ} {b : Bool} {l : Logical} → IsAnd x y b l → f y ≤ f x
    and_shrinks (some_basic a more) = le_trans (more_and_shrinks more) (basic_shrinks a)

    pub more_and_shrinks : {x y : List ℕ} {ls : Logicals} → IsMoreAnd x y ls → f y ≤ f x
    more_and_shrinks and_ends = le_refl _
    more_and_shrinks (and_goes_on {x} {y} b c a more) = le_trans (more_and_shrinks more) (le_trans (basic_shrinks a) (le_trans (blanks_shrink c) (le_trans (grows 38 y) (le_trans (grows 38 (38 ∷ y)) (blanks_shrink b)))))

    pub basic_shrinks : {x y : List ℕ} {b : Bool} {l : Logical} → IsBasic x y b l → f y ≤ f x
    basic_shrinks (parens {x} {y} {z} {w} {v} n b l e) = le_trans (grows 41 v) (le_trans (blanks_shrink e) (le_trans (logical_shrinks l) (le_trans (blanks_shrink b) (le_trans (grows 40 y) (negation_shrinks n)))))
    basic_shrinks (comparison a b o c d) = le_trans (comparable_shrinks d) (le_trans (blanks_shrink c) (le_trans (op_shrinks o) (le_trans (blanks_shrink b) (comparable_shrinks a))))
    basic_shrinks (query_test n q) = le_trans (query_shrinks q) (negation_shrinks n)
    basic_shrinks (call_test n c) = le_trans (call_shrinks c) (negation_shrinks n)

    pub query_shrinks : {x y : List ℕ} {p : Path} → IsQuery x y p → f y ≤ f x
    query_shrinks (filter_query o ss) = le_trans (segments_shrink ss) (origin_shrinks o)

    pub comparable_shrinks : {x y : List ℕ} {c : Comparable} → IsComparable x y c → f y ≤ f x
    comparable_shrinks (literal_side l) = literal_shrinks l
    comparable_shrinks (singular_side o ss) = le_trans (singular_shrinks ss) (origin_shrinks o)
    comparable_shrinks (call_side c) = call_shrinks c

    pub call_shrinks : {x y : List ℕ} {c : Call} → IsCall x y c → f y ≤ f x
    call_shrinks (call_without {f = name} {x} {y} {z} n b) = le_trans (grows 41 z) (le_trans (blanks_shrink b) (le_trans (grows 40 y) (function_shrinks n)))
    call_shrinks (call_with {f = name} {x} {y} {z} {w} {v} {u} n b a more e) = le_trans (grows 41 u) (le_trans (blanks_shrink e) (le_trans (more_arguments_shrink more) (le_trans (argument_shrinks a) (le_trans (blanks_shrink b) (le_trans (grows 40 y) (function_shrinks n))))))

    pub more_arguments_shrink : {x y : List ℕ} {args : Arguments} → IsMoreArguments x y args → f y ≤ f x
    more_arguments_shrink arguments_end = le_refl _
    more_arguments_shrink (arguments_go_on {x} {y} b c a more) = le_trans (more_arguments_shrink more) (le_trans (argument_shrinks a) (le_trans (blanks_shrink c) (le_trans (grows 44 y) (blanks_shrink b))))

    pub argument_shrinks : {x y : List ℕ} {a : Argument} → IsArgument x y a → f y ≤ f x
    argument_shrinks (literal_argument l) = literal_shrinks l
    argument_shrinks (query_argument q) = query_shrinks q
    argument_shrinks (call_argument c) = call_shrinks c
    argument_shrinks (logical_argument l) = logical_shrinks l
