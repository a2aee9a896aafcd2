-- The meaning of queries once more, with anything in the place of each answer that the definitions give only to be total:
-- of a function that is called with other arguments than it takes, and of an argument that is asked for what it is not.
use Rattle.std.specs.Prelude.{ℕ, pos, ◌-◌, List, [], ◌∷◌, ◌++◌, length, flat_map, filter, Bool, true, false, not, ◌&&◌, ◌||◌, ◌==◌, Option, Some, None, unwrap_or, if◌then◌else◌, codes, slice_get}
use Rattle.jp_model.specs.declared.Framing.{Framing}
use Rattle.jp_model.specs.Characters.{text_equal}
use Rattle.jp_model.specs.Json.Tree.{Tree, Value}
use Rattle.jp_model.specs.Pattern.Membership.{is_in, occurs_in}
use Rattle.jp_model.specs.Query.Syntax.{Segment, child_segment, descendant_segment, Segments, no_segments, segment, Selector, name_selector, wildcard_selector, index_selector, slice_selector, filter_selector, Selectors, no_selectors, selector, Logical, or_all, and_all, negated, compare, exists, test, Logicals, no_logicals, logical, Comparable, constant, single, result, Argument, constant_argument, nodes_argument, condition, result_argument, Arguments, no_arguments, argument, Path, path, Call, call}
use Rattle.jp_model.specs.Query.Typing.{is_singular_path}
use Rattle.jp_model.specs.Meaning.Nodes.{Node, children, subtree}
use Rattle.jp_model.specs.Meaning.Slices.{named, indexed, sliced}
use Rattle.jp_model.specs.Meaning.Compare.{compared}
use Rattle.jp_model.specs.Meaning.Functions.{single_value, literal_value, ArgumentResult, counted, length_of, in_pattern}
use Rattle.jp_model.specs.Meaning.Selecting.{start}
use Rattle.jp_model.specs.Rows.{Row, node_row, refusal_row, node_text, refusal_text}

-- what is answered where a definition has a case that no well-typed query needs
pub record Fallbacks : Type 0 where
  pub value : List ℕ → List ArgumentResult → Option Value
  pub truth : List ℕ → List ArgumentResult → Bool
  pub argument_value : Argument → List Node → Option Value
  pub argument_nodes : Argument → List Node

-- what the definitions answer there: Nothing, false, the value of a single node, and no node
abbrev pub defaults : Fallbacks
defaults = record { value = λ f args. None; truth = λ f args. false; argument_value = λ a ns. single_value ns; argument_nodes = λ a. [] }

-- value_function, where a call has the arguments of its function, and anything else
abbrev pub value_function_by : Fallbacks → List ℕ → List ArgumentResult → Option Value
value_function_by d f (a ∷ []) =
    if text_equal f (codes "length") then length_of a.value
    else if text_equal f (codes "count") then Some (counted (length a.nodes))
    else if text_equal f (codes "value") then single_value a.nodes
    else d.value f (a ∷ [])
value_function_by d f args = d.value f args

-- logical_function, where a call has the arguments of its function, and anything else
abbrev pub logical_function_by : Fallbacks → List ℕ → List ArgumentResult → Bool
logical_function_by d f (a ∷ b ∷ []) =
    if text_equal f (codes "match") then in_pattern is_in a.value b.value
    else if text_equal f (codes "search") then in_pattern occurs_in a.value b.value
    else d.truth f (a ∷ b ∷ [])
logical_function_by d f args = d.truth f args

abbrev mutual
  -- each of these is the function of that name in jp_model's Meaning/Selecting
  pub nodes_by : Fallbacks → Segments → List Node → Tree → List Node
  nodes_by d no_segments list t = list
  nodes_by d (segment s ss) list t = nodes_by d ss (flat_map (λ n. segment_nodes_by d s n t) list) t

  pub segment_nodes_by : Fallbacks → Segment → Node → Tree → List Node
  segment_nodes_by d (child_segment ss) n t = selected_by d ss n t
  segment_nodes_by d (descendant_segment ss) n t = flat_map (λ m. selected_by d ss m t) (subtree n)

  pub selected_by : Fallbacks → Selectors → Node → Tree → List Node
  selected_by d no_selectors n t = []
  selected_by d (selector s ss) n t = select_by d s n t ++ selected_by d ss n t

  pub select_by : Fallbacks → Selector → Node → Tree → List Node
  select_by d (name_selector x) n t = named x n
  select_by d wildcard_selector n t = children n
  select_by d (index_selector i) n t = indexed i n
  select_by d (slice_selector first last step) n t = sliced first last (unwrap_or step (pos 1)) n
  select_by d (filter_selector l) n t = filter (λ c. truth_by d l c t) (children n)

  pub truth_by : Fallbacks → Logical → Node → Tree → Bool
  truth_by d (or_all ls) n t = some_true_by d ls n t
  truth_by d (and_all ls) n t = each_true_by d ls n t
  truth_by d (negated l) n t = not (truth_by d l n t)
  truth_by d (compare a op b) n t = compared op (compared_value_by d a n t) (compared_value_by d b n t)
  truth_by d (exists p) n t = not (length (path_nodes_by d p n t) == 0)
  truth_by d (test c) n t = call_truth_by d c n t

  pub some_true_by : Fallbacks → Logicals → Node → Tree → Bool
  some_true_by d no_logicals n t = false
  some_true_by d (logical l ls) n t = truth_by d l n t || some_true_by d ls n t

  pub each_true_by : Fallbacks → Logicals → Node → Tree → Bool
  each_true_by d no_logicals n t = true
  each_true_by d (logical l ls) n t = truth_by d l n t && each_true_by d ls n t

  pub compared_value_by : Fallbacks → Comparable → Node → Tree → Option Value
  compared_value_by d (constant c) n t = Some (literal_value c)
  compared_value_by d (single p) n t = single_value (path_nodes_by d p n t)
  compared_value_by d (result c) n t = call_value_by d c n t

  pub path_nodes_by : Fallbacks → Path → Node → Tree → List Node
  path_nodes_by d (path origin ss) n t = nodes_by d ss (start origin n t) t

  pub call_value_by : Fallbacks → Call → Node → Tree → Option Value
  call_value_by d (call f args) n t = value_function_by d f (given_by_all d args n t)

  pub call_truth_by : Fallbacks → Call → Node → Tree → Bool
  call_truth_by d (call f args) n t = logical_function_by d f (given_by_all d args n t)

  pub given_by_all : Fallbacks → Arguments → Node → Tree → List ArgumentResult
  given_by_all d no_arguments n t = []
  given_by_all d (argument a args) n t = argument_by d a n t ∷ given_by_all d args n t

  -- a literal and a call's result give no nodes, a condition neither value nor nodes, and a query that is not singular no value
  pub argument_by : Fallbacks → Argument → Node → Tree → ArgumentResult
  argument_by d (constant_argument c) n t = record { value = Some (literal_value c); nodes = d.argument_nodes (constant_argument c) }
  argument_by d (nodes_argument p) n t = record {
    value = if is_singular_path p then single_value (path_nodes_by d p n t) else d.argument_value (nodes_argument p) (path_nodes_by d p n t);
    nodes = path_nodes_by d p n t;
  }
  argument_by d (condition l) n t = record { value = d.argument_value (condition l) []; nodes = d.argument_nodes (condition l) }
  argument_by d (result_argument c) n t = record { value = call_value_by d c n t; nodes = d.argument_nodes (result_argument c) }

-- the text of a row, where a line that is not there would have this text
abbrev pub row_text_by : List ℕ → Framing → List (List ℕ) → Row → List ℕ
row_text_by d f lines (node_row n node) = node_text f n (unwrap_or (slice_get lines (n - 1)) d) node
row_text_by d f lines (refusal_row n fault) = refusal_text f n fault
