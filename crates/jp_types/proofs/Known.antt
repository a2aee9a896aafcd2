-- A well-typed query (limit_tests limits.Functions) none but the five functions.
use Rattle.std.proofs.Common.{◌≡◌, List, [], ◌∷◌, ℤ, true, Option, Some, None, refl}
use Rattle.std.specs.Prelude.{is_some}
use Rattle.std.proofs.lemmas.Bool.{and_parts, and_from}
use Rattle.jp_model.specs.Query.Limits.{segments_pass, segment_passes, selectors_pass, selector_passes, logical_passes, logicals_pass, comparable_passes, path_passes, call_passes, arguments_pass, argument_passes}
use Rattle.jp_model.specs.Query.Syntax.{Segment, child_segment, descendant_segment, Segments, no_segments, segment, Selector, name_selector, wildcard_selector, index_selector, slice_selector, filter_selector, Selectors, no_selectors, selector, Logical, or_all, and_all, negated, compare, exists, test, Logicals, no_logicals, logical, Comparable, constant, single, result, Argument, constant_argument, nodes_argument, condition, result_argument, Arguments, no_arguments, argument, Path, path, Call, call}
use Rattle.jp_model.specs.Query.Typing.{Kind, value_kind, nodes_kind, logical_kind, signature_of, takes, call_serves, is_kind, is_singular_path, segments_typed, segment_typed, selectors_typed, selector_typed, logical_typed, logicals_typed, comparable_typed, path_typed, call_typed, arguments_typed, argument_typed}
use Rattle.jp_types.specs.Limits.{limit_tests}
use Rattle.jp_types.specs.declared.limits.Limit.TheVariants as limits

-- no bound of a slice is a function
bounds : (first last step : Option ℤ) → selector_passes (slice_selector first last step) (limit_tests limits.Functions) ≡ true
bounds None None None = refl
bounds None None (Some k) = refl
bounds None (Some j) None = refl
bounds None (Some j) (Some k) = refl
bounds (Some i) None None = refl
bounds (Some i) None (Some k) = refl
bounds (Some i) (Some j) None = refl
bounds (Some i) (Some j) (Some k) = refl

mutual
  pub segments_known : (ss : Segments) → segments_typed ss ≡ true → segments_pass ss (limit_tests limits.Functions) ≡ true
  segments_known no_segments h = refl
  segments_known (segment s ss) h = let both = and_parts (segment_typed s) (segments_typed ss) h in and_from (segment_passes s (limit_tests limits.Functions)) (segments_pass ss (limit_tests limits.Functions)) (segment_known s both.0) (segments_known ss both.1)

  segment_known : (s : Segment) → segment_typed s ≡ true → segment_passes s (limit_tests limits.Functions) ≡ true
  segment_known (child_segment ss) h = selectors_known ss h
  segment_known (descendant_segment ss) h = selectors_known ss h

  selectors_known : (ss : Selectors) → selectors_typed ss ≡ true → selectors_pass ss (limit_tests limits.Functions) ≡ true
  selectors_known no_selectors h = refl
  selectors_known (selector s ss) h = let both = and_parts (selector_typed s) (selectors_typed ss) h in and_from (selector_passes s (limit_tests limits.Functions)) (selectors_pass ss (limit_tests limits.Functions)) (selector_known s both.0) (selectors_known ss both.1)

  selector_known : (s : Selector) → selector_typed s ≡ true → selector_passes s (limit_tests limits.Functions) ≡ true
  selector_known (name_selector x) h = refl
  selector_known wildcard_selector h = refl
  selector_known (index_selector i) h = refl
  selector_known (slice_selector first last step) h = bounds first last step
  selector_known (filter_selector l) h = logical_known l h

  logical_known : (l : Logical) → logical_typed l ≡ true → logical_passes l (limit_tests limits.Functions) ≡ true
  logical_known (or_all ls) h = logicals_known ls h
  logical_known (and_all ls) h = logicals_known ls h
  logical_known (negated l) h = logical_known l h
  logical_known (compare a op b) h = let both = and_parts (comparable_typed a) (comparable_typed b) h in and_from (comparable_passes a (limit_tests limits.Functions)) (comparable_passes b (limit_tests limits.Functions)) (comparable_known a both.0) (comparable_known b both.1)
  logical_known (exists p) h = path_known p h
  logical_known (test c) h = call_known c (and_parts (call_serves logical_kind c) (call_typed c) h).1

  logicals_known : (ls : Logicals) → logicals_typed ls ≡ true → logicals_pass ls (limit_tests limits.Functions) ≡ true
  logicals_known no_logicals h = refl
  logicals_known (logical l ls) h = let both = and_parts (logical_typed l) (logicals_typed ls) h in and_from (logical_passes l (limit_tests limits.Functions)) (logicals_pass ls (limit_tests limits.Functions)) (logical_known l both.0) (logicals_known ls both.1)

  comparable_known : (x : Comparable) → comparable_typed x ≡ true → comparable_passes x (limit_tests limits.Functions) ≡ true
  comparable_known (constant c) h = refl
  comparable_known (single p) h = path_known p h
  comparable_known (result c) h = call_known c (and_parts (call_serves value_kind c) (call_typed c) h).1

  path_known : (p : Path) → path_typed p ≡ true → path_passes p (limit_tests limits.Functions) ≡ true
  path_known (path o ss) h = segments_known ss h

  call_known : (c : Call) → call_typed c ≡ true → call_passes c (limit_tests limits.Functions) ≡ true
  call_known (call f args) h =
      let both = and_parts (is_some (signature_of f)) (arguments_typed args (takes [] (signature_of f))) h in
      and_from (is_some (signature_of f)) (arguments_pass args (limit_tests limits.Functions)) both.0 (arguments_known args (takes [] (signature_of f)) both.1)

  arguments_known : (args : Arguments) (kinds : List Kind) → arguments_typed args kinds ≡ true → arguments_pass args (limit_tests limits.Functions) ≡ true
  arguments_known no_arguments kinds h = refl
  arguments_known (argument a args) [] h = absurd (cc)
  arguments_known (argument a args) (kind ∷ kinds) h = let both = and_parts (argument_typed a kind) (arguments_typed args kinds) h in and_from (argument_passes a (limit_tests limits.Functions)) (arguments_pass args (limit_tests limits.Functions)) (argument_known a kind both.0) (arguments_known args kinds both.1)

  argument_known : (a : Argument) (kind : Kind) → argument_typed a kind ≡ true → argument_passes a (limit_tests limits.Functions) ≡ true
  argument_known (constant_argument c) kind h = refl
  argument_known (nodes_argument p) value_kind h = path_known p (and_parts (is_singular_path p) (path_typed p) h).1
  argument_known (nodes_argument p) nodes_kind h = path_known p h
  argument_known (nodes_argument p) logical_kind h = path_known p h
  argument_known (condition l) kind h = logical_known l (and_parts (is_kind logical_kind kind) (logical_typed l) h).1
  argument_known (result_argument c) kind h = call_known c (and_parts (call_serves kind c) (call_typed c) h).1
