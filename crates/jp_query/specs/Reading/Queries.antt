-- Readers of segments, selectors and expressions (RFC 9535, sections 2.3 to 2.5). Each reads as far as it can. An integer
-- of a selector is put into the tree as `of_int` has it.
use Rattle.std.specs.Prelude.{ℕ, zero, suc, ℤ, List, [], ◌∷◌, Bool, true, false, ◌&&◌, Option, Some, None, cond}
use Rattle.jp_model.specs.Query.Spelling.{or_of, and_of, is_alone}
use Rattle.jp_model.specs.Query.Syntax.{CompareOp, Origin, Segment, child_segment, descendant_segment, Segments, Selector, name_selector, wildcard_selector, index_selector, slice_selector, filter_selector, no_selectors, selector, Logical, negated, compare, exists, test, Logicals, Comparable, constant, single, result, Argument, constant_argument, nodes_argument, condition, result_argument, no_arguments, path, Call, call}
use Rattle.jp_syntax.specs.View.{segments_of, selectors_of, logicals_of, arguments_of}
use Rattle.jp_query.specs.Reading.Scalars.{Reader, Item, is_item, ◌>>=◌, choose, after, after_blanks, skip_blanks, begins, all_of, shorthand, call_start}
use Rattle.jp_query.specs.Reading.Numbers.{is_int_first, int_at}
use Rattle.jp_query.specs.Reading.Strings.{string_at}
use Rattle.jp_query.specs.Reading.Literals.{literal_at, operator_at, origin_at, begins_without_literal}

-- S int, if an int stands there
unfoldable pub bound_at : (ℤ → ℤ) → Reader (Option ℤ)
bound_at of_int x = cond (begins is_int_first (skip_blanks x))
    (do
      i ← int_at of_int (skip_blanks x)
      Some (Some i.0, i.1))
    (Some (None, x))

-- S ":" [S int], if a colon stands there
unfoldable pub step_at : (ℤ → ℤ) → Reader (Option ℤ)
step_at of_int x = choose (after_blanks 58 x) (bound_at of_int) (Some (None, x))

-- a slice-selector after its first colon
unfoldable pub slice_behind : (ℤ → ℤ) → Option ℤ → Reader Selector
slice_behind of_int first x = do
  last ← bound_at of_int x
  step ← step_at of_int last.1
  Some (slice_selector first last.0 step.0, step.1)

-- an index-selector or a slice-selector that begins with an int
unfoldable pub index_or_slice : (ℤ → ℤ) → Reader Selector
index_or_slice of_int x = do
  i ← int_at of_int x
  choose (after_blanks 58 i.1) (slice_behind of_int (Some i.0)) (Some (index_selector i.0, i.1))

-- a child segment with one selector
abbrev pub child_of_one : Selector → Segment
child_of_one s = child_segment (selector s no_selectors)

-- after a bracket: a name or an index, and the second bracket, with no blanks
unfoldable pub singular_behind : (ℤ → ℤ) → Reader Segment
singular_behind of_int x = cond (begins is_int_first x)
    (do
      i ← int_at of_int x
      y ← after 93 i.1
      Some (child_of_one (index_selector i.0), y))
    (do
      s ← string_at x
      y ← after 93 s.1
      Some (child_of_one (name_selector s.0), y))

-- name-segment or index-segment
unfoldable pub singular_segment : (ℤ → ℤ) → Reader Segment
singular_segment of_int x = choose (after 91 x) (singular_behind of_int)
    (do
      y ← after 46 x
      s ← shorthand y
      Some (child_of_one (name_selector s.0), s.1))

-- S and a name-segment or index-segment, if one stands there
unfoldable pub next_singular : (ℤ → ℤ) → Item Segment
next_singular of_int x = Some (singular_segment of_int (skip_blanks x))

-- singular-query-segments
unfoldable pub singular_at : (ℤ → ℤ) → Reader Segments
singular_at of_int x = do
  r ← all_of (next_singular of_int) x
  Some (segments_of r.0, r.1)

-- after a point or two: `*` or a name
unfoldable pub dotted : Reader (List Selector)
dotted x = choose (after 42 x)
    (λ y. Some (wildcard_selector ∷ [], y))
    (do
      r ← shorthand x
      Some (name_selector r.0 ∷ [], r.1))

-- an expression, and whether it is a query or a call alone
abbrev pub Expression : Type 0
Expression = Bool × Logical

-- a query or a call alone is an argument as it is, and any other expression is a condition (RFC 9535, section 2.4)
abbrev pub argument_of : Expression → Argument
argument_of (true, exists p) = nodes_argument p
argument_of (true, test c) = result_argument c
argument_of (bare, l) = condition l

-- S, a mark twice, S and an expression, if the mark stands there
abbrev pub behind_marks : ℕ → Reader Expression → Item Logical
behind_marks mark one x = choose (after_blanks mark x)
    (λ y. do
      z ← after mark y
      r ← one (skip_blanks z)
      Some (Some (r.0.1, r.1)))
    (Some None)

-- an expression and those after it, joined
abbrev pub joined_at : (Logical → Logicals → Logical) → Reader Expression → Item Logical → Reader Expression
joined_at join one next x = do
  l ← one x
  ls ← all_of next l.1
  Some ((l.0.0 && is_alone (logicals_of ls.0), join l.0.1 (logicals_of ls.0)), ls.1)

-- Below, nested reads a logical-expr after one more bracket or parenthesis.
module _ (of_int : ℤ → ℤ) (nested : Reader Expression) where
  -- selector
  unfoldable pub selector_at : Reader Selector
  selector_at x = choose (after 42 x)
      (λ y. Some (wildcard_selector, y))
      (choose (after 63 x)
      (λ y. do
        r ← nested (skip_blanks y)
        Some (filter_selector r.0.1, r.1))
      (choose (after 58 x)
      (slice_behind of_int None)
      (cond (begins is_int_first x)
      (index_or_slice of_int x)
      (do
        r ← string_at x
        Some (name_selector r.0, r.1)))))

  -- S "," S selector, if a comma stands there
  unfoldable pub next_selector : Item Selector
  next_selector x = choose (after_blanks 44 x)
      (λ y. is_item (selector_at (skip_blanks y)))
      (Some None)

  -- bracketed-selection
  unfoldable pub brackets_at : Reader (List Selector)
  brackets_at x = do
    y ← after 91 x
    s ← selector_at (skip_blanks y)
    ss ← all_of next_selector s.1
    z ← after_blanks 93 ss.1
    Some (s.0 ∷ ss.0, z)

  -- after two points
  unfoldable pub descendant_at : Reader (List Selector)
  descendant_at x = choose (after 91 x) (λ y. brackets_at x) (dotted x)

  -- S segment, if a point or a bracket stands there
  unfoldable pub next_segment : Item Segment
  next_segment x = choose (after_blanks 46 x)
      (λ y. choose (after 46 y)
      (λ z. do
        r ← descendant_at z
        Some (Some (descendant_segment (selectors_of r.0), r.1)))
      (do
        r ← dotted y
        Some (Some (child_segment (selectors_of r.0), r.1))))
      (choose (after_blanks 91 x)
      (λ y. do
        r ← brackets_at (skip_blanks x)
        Some (Some (child_segment (selectors_of r.0), r.1)))
      (Some None))

  -- segments
  unfoldable pub segments_at : Reader Segments
  segments_at x = do
    r ← all_of next_segment x
    Some (segments_of r.0, r.1)

  -- after a parenthesis: S logical-expr S ")"
  unfoldable pub closed_at : Reader Logical
  closed_at x = do
    r ← nested (skip_blanks x)
    y ← after_blanks 41 r.1
    Some (r.0.1, y)

  -- logical-expr as an argument
  unfoldable pub condition_at : Reader Argument
  condition_at x = do
    r ← nested x
    Some (argument_of r.0, r.1)

  -- function-argument: a literal with no operator after it, or an expression
  unfoldable pub argument_at : Reader Argument
  argument_at x = cond (begins_without_literal x)
      (condition_at x)
      (do
        l ← literal_at x
        choose (operator_at (skip_blanks l.1)) (λ op. condition_at x) (Some (constant_argument l.0, l.1)))

  -- S "," S function-argument, if a comma stands there
  unfoldable pub next_argument : Item Argument
  next_argument x = choose (after_blanks 44 x)
      (λ y. is_item (argument_at (skip_blanks y)))
      (Some None)

  -- some arguments, S and ")"
  unfoldable pub arguments_at : Reader (List Argument)
  arguments_at x = do
    a ← argument_at x
    more ← all_of next_argument a.1
    y ← after_blanks 41 more.1
    Some (a.0 ∷ more.0, y)

  -- function-expr after its name and its parenthesis
  unfoldable pub call_behind : List ℕ → Reader Call
  call_behind name x = choose (after_blanks 41 x)
      (λ y. Some (call name no_arguments, y))
      (do
        args ← arguments_at (skip_blanks x)
        Some (call name (arguments_of args.0), args.1))

  -- comparable
  unfoldable pub comparable_at : Reader Comparable
  comparable_at x = choose (origin_at x)
      (λ o. do
        s ← singular_at of_int o.1
        Some (single (path o.0 s.0), s.1))
      (choose (call_start x)
      (λ f. do
        c ← call_behind f.0 f.1
        Some (result c.0, c.1))
      (do
        l ← literal_at x
        Some (constant l.0, l.1)))

  -- comparison-expr after its first side and its operator
  unfoldable pub comparison_behind : Comparable → CompareOp → Reader Expression
  comparison_behind left op x = do
    right ← comparable_at (skip_blanks x)
    Some ((false, compare left op right.0), right.1)

  -- a comparison-expr whose first side is a query, or a test of a query, after its mark
  unfoldable pub query_behind : Origin → Reader Expression
  query_behind o x = do
    s ← singular_at of_int x
    choose (operator_at (skip_blanks s.1))
        (λ op. comparison_behind (single (path o s.0)) op.0 op.1)
        (do
          r ← segments_at x
          Some ((true, exists (path o r.0)), r.1))

  -- a comparison-expr whose first side is a call, or a test of a call, after its name and its parenthesis
  unfoldable pub call_or_comparison : List ℕ → Reader Expression
  call_or_comparison name x = do
    c ← call_behind name x
    choose (operator_at (skip_blanks c.1)) (λ op. comparison_behind (result c.0) op.0 op.1) (Some ((true, test c.0), c.1))

  -- a comparison-expr whose first side is a literal
  unfoldable pub literal_comparison : Reader Expression
  literal_comparison x = do
    l ← literal_at x
    op ← operator_at (skip_blanks l.1)
    comparison_behind (constant l.0) op.0 op.1

  -- a query or a call alone
  unfoldable pub test_at : Reader Logical
  test_at x = choose (origin_at x)
      (λ o. do
        r ← segments_at o.1
        Some (exists (path o.0 r.0), r.1))
      (do
        f ← call_start x
        c ← call_behind f.0 f.1
        Some (test c.0, c.1))

  -- what may stand after `!`: a parenthesis, a query or a call
  unfoldable pub negated_at : Reader Expression
  negated_at x = do
    r ← choose (after 40 x) closed_at (test_at x)
    Some ((false, negated r.0), r.1)

  -- basic-expr without `!`
  unfoldable pub plain_at : Reader Expression
  plain_at x = choose (after 40 x)
      (λ y. do
        r ← closed_at y
        Some ((false, r.0), r.1))
      (choose (origin_at x)
      (λ o. query_behind o.0 o.1)
      (choose (call_start x)
      (λ f. call_or_comparison f.0 f.1)
      (literal_comparison x)))

  -- basic-expr
  unfoldable pub basic_at : Reader Expression
  basic_at x = choose (after 33 x) (λ y. negated_at (skip_blanks y)) (plain_at x)

  -- S "&&" S basic-expr, if a `&` stands there
  unfoldable pub next_basic : Item Logical
  next_basic x = behind_marks 38 basic_at x

  -- logical-and-expr
  unfoldable pub and_at : Reader Expression
  and_at x = joined_at and_of basic_at next_basic x

  -- S "||" S logical-and-expr, if a `|` stands there
  unfoldable pub next_and : Item Logical
  next_and x = behind_marks 124 and_at x

  -- logical-expr
  unfoldable pub or_at : Reader Expression
  or_at x = joined_at or_of and_at next_and x

-- a logical-expr in which brackets and parentheses nest at most so deep
unfoldable pub logical_at : (ℤ → ℤ) → ℕ → Reader Expression
logical_at of_int zero x = None
logical_at of_int (suc depth) x = or_at of_int (logical_at of_int depth) x

-- what was read, where nothing is left
abbrev pub whole : {A : Type 0} → A × List ℕ → Option A
whole (a, []) = Some a
whole (a, c ∷ x) = None

-- segments: all of the scalars
abbrev pub whole_segments : (ℤ → ℤ) → ℕ → List ℕ → Option Segments
whole_segments of_int depth x = do
  r ← segments_at of_int (logical_at of_int depth) x
  whole r

-- jsonpath-query: all of the scalars (RFC 9535, section 2.1.1)
unfoldable pub query_at : (ℤ → ℤ) → ℕ → List ℕ → Option Segments
query_at of_int depth x = do
  y ← after 36 x
  whole_segments of_int depth y

-- rel-query: all of the scalars (RFC 9535, section 2.3.5.1)
unfoldable pub relative_at : (ℤ → ℤ) → ℕ → List ℕ → Option Segments
relative_at of_int depth x = do
  y ← after 64 x
  whole_segments of_int depth y

-- logical-expr: all of the scalars up to the bracket that closes the filter of which it is all (RFC 9535, sections 2.3.5 and 2.5.1.1)
unfoldable pub alone_at : (ℤ → ℤ) → ℕ → List ℕ → Option Logical
alone_at of_int depth x = do
  r ← logical_at of_int depth (skip_blanks x)
  y ← after_blanks 93 r.1
  whole (r.0.1, y)
