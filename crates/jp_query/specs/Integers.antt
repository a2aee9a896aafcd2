-- A query with its integers changed, and an integer kept near the exact ones.
use Rattle.std.specs.Prelude.{ℤ, pos, negsuc, int_lt, cond, Option, Some, None}
use Rattle.jp_model.specs.Query.Limits.{is_exact}
use Rattle.jp_model.specs.Query.Syntax.{Segment, child_segment, descendant_segment, Segments, no_segments, segment, Selector, name_selector, wildcard_selector, index_selector, slice_selector, filter_selector, Selectors, no_selectors, selector, Logical, or_all, and_all, negated, compare, exists, test, Logicals, no_logicals, logical, Comparable, constant, single, result, Argument, constant_argument, nodes_argument, condition, result_argument, Arguments, no_arguments, argument, Path, path, Call, call}

-- the integer itself where it is exact, and else the next one outside the exact ones (RFC 9535, section 2.1)
abbrev pub clamp : ℤ → ℤ
clamp i = cond (is_exact i) i (cond (int_lt i (pos 0)) (negsuc 9007199254740991) (pos 9007199254740992))

-- an integer that may be there, changed
abbrev pub bound_ints : (ℤ → ℤ) → Option ℤ → Option ℤ
bound_ints of_int None = None
bound_ints of_int (Some i) = Some (of_int i)

abbrev mutual
  -- each integer of the selectors changed
  pub map_ints : (ℤ → ℤ) → Segments → Segments
  map_ints of_int no_segments = no_segments
  map_ints of_int (segment s ss) = segment (segment_ints of_int s) (map_ints of_int ss)

  pub segment_ints : (ℤ → ℤ) → Segment → Segment
  segment_ints of_int (child_segment ss) = child_segment (selectors_ints of_int ss)
  segment_ints of_int (descendant_segment ss) = descendant_segment (selectors_ints of_int ss)

  pub selectors_ints : (ℤ → ℤ) → Selectors → Selectors
  selectors_ints of_int no_selectors = no_selectors
  selectors_ints of_int (selector s ss) = selector (selector_ints of_int s) (selectors_ints of_int ss)

  pub selector_ints : (ℤ → ℤ) → Selector → Selector
  selector_ints of_int (name_selector x) = name_selector x
  selector_ints of_int wildcard_selector = wildcard_selector
  selector_ints of_int (index_selector i) = index_selector (of_int i)
  selector_ints of_int (slice_selector first last step) = slice_selector (bound_ints of_int first) (bound_ints of_int last) (bound_ints of_int step)
  selector_ints of_int (filter_selector l) = filter_selector (logical_ints of_int l)

  pub logical_ints : (ℤ → ℤ) → Logical → Logical
  logical_ints of_int (or_all ls) = or_all (logicals_ints of_int ls)
  logical_ints of_int (and_all ls) = and_all (logicals_ints of_int ls)
  logical_ints of_int (negated l) = negated (logical_ints of_int l)
  logical_ints of_int (compare a op b) = compare (comparable_ints of_int a) op (comparable_ints of_int b)
  logical_ints of_int (exists p) = exists (path_ints of_int p)
  logical_ints of_int (test c) = test (call_ints of_int c)

  pub logicals_ints : (ℤ → ℤ) → Logicals → Logicals
  logicals_ints of_int no_logicals = no_logicals
  logicals_ints of_int (logical l ls) = logical (logical_ints of_int l) (logicals_ints of_int ls)

  pub comparable_ints : (ℤ → ℤ) → Comparable → Comparable
  comparable_ints of_int (constant c) = constant c
  comparable_ints of_int (single p) = single (path_ints of_int p)
  comparable_ints of_int (result c) = result (call_ints of_int c)

  pub path_ints : (ℤ → ℤ) → Path → Path
  path_ints of_int (path o ss) = path o (map_ints of_int ss)

  pub call_ints : (ℤ → ℤ) → Call → Call
  call_ints of_int (call f args) = call f (arguments_ints of_int args)

  pub arguments_ints : (ℤ → ℤ) → Arguments → Arguments
  arguments_ints of_int no_arguments = no_arguments
  arguments_ints of_int (argument a args) = argument (argument_ints of_int a) (arguments_ints of_int args)

  pub argument_ints : (ℤ → ℤ) → Argument → Argument
  argument_ints of_int (constant_argument c) = constant_argument c
  argument_ints of_int (nodes_argument p) = nodes_argument (path_ints of_int p)
  argument_ints of_int (condition l) = condition (logical_ints of_int l)
  argument_ints of_int (result_argument c) = result_argument (call_ints of_int c)
