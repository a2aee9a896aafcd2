-- How large a part of a query is: a bound on how often an evaluation goes into it.
use Rattle.std.proofs.Common.{ℕ, ◌+◌}
use Rattle.jp_model.specs.Query.Syntax.{Segment, child_segment, descendant_segment, Segments, no_segments, segment, Selector, filter_selector, Selectors, no_selectors, selector, Logical, or_all, and_all, negated, compare, exists, test, Logicals, no_logicals, logical, Comparable, constant, single, result, Argument, constant_argument, nodes_argument, condition, result_argument, Arguments, no_arguments, argument, Path, path, Call, call}

abbrev mutual
  pub size_of_segments : Segments → ℕ
  size_of_segments no_segments = 0
  size_of_segments (segment s ss) = size_of_segment s + size_of_segments ss

  pub size_of_segment : Segment → ℕ
  size_of_segment (child_segment ss) = size_of_selectors ss + 11
  size_of_segment (descendant_segment ss) = size_of_selectors ss + 11

  pub size_of_selectors : Selectors → ℕ
  size_of_selectors no_selectors = 0
  size_of_selectors (selector s ss) = size_of_selector s + size_of_selectors ss

  pub size_of_selector : Selector → ℕ
  size_of_selector (filter_selector l) = size_of_logical l + 3
  size_of_selector _ = 1

  pub size_of_logical : Logical → ℕ
  size_of_logical (or_all ls) = size_of_logicals ls + 1
  size_of_logical (and_all ls) = size_of_logicals ls + 1
  size_of_logical (negated l) = size_of_logical l + 5
  size_of_logical (compare a op b) = size_of_comparable a + size_of_comparable b + 6
  size_of_logical (exists p) = size_of_path p + 4
  size_of_logical (test c) = size_of_call c + 5

  pub size_of_logicals : Logicals → ℕ
  size_of_logicals no_logicals = 0
  size_of_logicals (logical l ls) = size_of_logical l + 5 + size_of_logicals ls

  pub size_of_comparable : Comparable → ℕ
  size_of_comparable (constant c) = 0
  size_of_comparable (single p) = size_of_path p + 4
  size_of_comparable (result c) = size_of_call c + 3

  pub size_of_path : Path → ℕ
  size_of_path (path o ss) = size_of_segments ss + 2

  pub size_of_call : Call → ℕ
  size_of_call (call f args) = size_of_arguments args + 2

  pub size_of_arguments : Arguments → ℕ
  size_of_arguments no_arguments = 0
  size_of_arguments (argument a args) = size_of_argument a + size_of_arguments args

  pub size_of_argument : Argument → ℕ
  size_of_argument (constant_argument c) = 0
  size_of_argument (nodes_argument p) = size_of_path p + 4
  size_of_argument (condition l) = size_of_logical l + 1
  size_of_argument (result_argument c) = size_of_call c + 3
