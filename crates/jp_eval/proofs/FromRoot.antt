-- What is asked of the root is the same for each node.
use Rattle.std.proofs.Common.{◌≡◌, ◌+◌, ◌∷◌, ◌&&◌, ◌||◌, ◌==◌, Bool, List, length, not, refl, ap, ap₂}
use Rattle.jp_model.specs.Json.Tree.{Tree}
use Rattle.jp_model.specs.Meaning.Compare.{compared}
use Rattle.jp_model.specs.Meaning.Functions.{ArgumentResult, given_value, logical_function, single_value, value_function}
use Rattle.jp_model.specs.Meaning.Nodes.{Node, root_node}
use Rattle.jp_model.specs.Meaning.Selecting.{call_truth, call_value, compared_value, each_true, given, given_by, path_nodes, some_true, truth}
use Rattle.jp_model.specs.Query.Syntax.{root, current, Logical, or_all, and_all, negated, compare, exists, test, Logicals, no_logicals, logical, Comparable, constant, single, result, Argument, constant_argument, nodes_argument, condition, result_argument, Arguments, no_arguments, argument, Path, path, Call, call}
use Rattle.jp_eval.specs.Roots.{argument_from_root, arguments_from_root, call_from_root, logical_from_root, logicals_from_root, path_from_root, side_from_root}
use Rattle.jp_eval.proofs.Sizes.{size_of_argument, size_of_arguments, size_of_call, size_of_comparable, size_of_logical, size_of_logicals, size_of_path}

-- ---- `$` in place of `@` makes a query no larger

path_size : (p : Path) → size_of_path (path_from_root p) ≡ size_of_path p
path_size (path o ss) = refl

mutual
  pub logical_size : (l : Logical) → size_of_logical (logical_from_root l) ≡ size_of_logical l
  logical_size (or_all ls) = ap (λ n. n + 1) (logicals_size ls)
  logical_size (and_all ls) = ap (λ n. n + 1) (logicals_size ls)
  logical_size (negated l) = ap (λ n. n + 5) (logical_size l)
  logical_size (compare a op b) = ap₂ (λ n m. n + m + 6) (side_size a) (side_size b)
  logical_size (exists p) = ap (λ n. n + 4) (path_size p)
  logical_size (test c) = ap (λ n. n + 5) (call_size c)

  logicals_size : (ls : Logicals) → size_of_logicals (logicals_from_root ls) ≡ size_of_logicals ls
  logicals_size no_logicals = refl
  logicals_size (logical l ls) = ap₂ (λ n m. n + 5 + m) (logical_size l) (logicals_size ls)

  pub side_size : (a : Comparable) → size_of_comparable (side_from_root a) ≡ size_of_comparable a
  side_size (constant c) = refl
  side_size (single p) = ap (λ n. n + 4) (path_size p)
  side_size (result c) = ap (λ n. n + 3) (call_size c)

  call_size : (c : Call) → size_of_call (call_from_root c) ≡ size_of_call c
  call_size (call f args) = ap (λ n. n + 2) (arguments_size args)

  arguments_size : (args : Arguments) → size_of_arguments (arguments_from_root args) ≡ size_of_arguments args
  arguments_size no_arguments = refl
  arguments_size (argument a args) = ap₂ (λ n m. n + m) (argument_size a) (arguments_size args)

  argument_size : (a : Argument) → size_of_argument (argument_from_root a) ≡ size_of_argument a
  argument_size (constant_argument c) = refl
  argument_size (nodes_argument p) = ap (λ n. n + 4) (path_size p)
  argument_size (condition l) = ap (λ n. n + 1) (logical_size l)
  argument_size (result_argument c) = ap (λ n. n + 3) (call_size c)

-- ---- with `$` in place of `@` an expression says of each node what it says of the root

-- whether there is one of some nodes, and what they give as an argument
abbrev truth_of_found : List Node → Bool
truth_of_found found = not (length found == 0)

abbrev nodes_given : List Node → ArgumentResult
nodes_given found = record { value = single_value found; nodes = found }

pub path_told : (p : Path) (n : Node) (t : Tree) → path_nodes (path_from_root p) n t ≡ path_nodes p (root_node t) t
path_told (path root ss) n t = refl
path_told (path current ss) n t = refl

mutual
  pub told_of_root : (l : Logical) (n : Node) (t : Tree) → truth (logical_from_root l) n t ≡ truth l (root_node t) t
  told_of_root (or_all ls) n t = some_told ls n t
  told_of_root (and_all ls) n t = each_told ls n t
  told_of_root (negated l) n t = ap not (told_of_root l n t)
  told_of_root (compare a op b) n t = ap₂ (compared op) (side_told a n t) (side_told b n t)
  told_of_root (exists p) n t = ap (λ (found : List Node). truth_of_found found) (path_told p n t)
  told_of_root (test c) n t = truth_told c n t

  some_told : (ls : Logicals) (n : Node) (t : Tree) → some_true (logicals_from_root ls) n t ≡ some_true ls (root_node t) t
  some_told no_logicals n t = refl
  some_told (logical l ls) n t = ap₂ ◌||◌ (told_of_root l n t) (some_told ls n t)

  each_told : (ls : Logicals) (n : Node) (t : Tree) → each_true (logicals_from_root ls) n t ≡ each_true ls (root_node t) t
  each_told no_logicals n t = refl
  each_told (logical l ls) n t = ap₂ ◌&&◌ (told_of_root l n t) (each_told ls n t)

  pub side_told : (a : Comparable) (n : Node) (t : Tree) → compared_value (side_from_root a) n t ≡ compared_value a (root_node t) t
  side_told (constant c) n t = refl
  side_told (single p) n t = ap single_value (path_told p n t)
  side_told (result c) n t = value_told c n t

  value_told : (c : Call) (n : Node) (t : Tree) → call_value (call_from_root c) n t ≡ call_value c (root_node t) t
  value_told (call f args) n t = ap (value_function f) (given_told args n t)

  truth_told : (c : Call) (n : Node) (t : Tree) → call_truth (call_from_root c) n t ≡ call_truth c (root_node t) t
  truth_told (call f args) n t = ap (logical_function f) (given_told args n t)

  given_told : (args : Arguments) (n : Node) (t : Tree) → given (arguments_from_root args) n t ≡ given args (root_node t) t
  given_told no_arguments n t = refl
  given_told (argument a args) n t = ap₂ (λ (x : ArgumentResult) (xs : List ArgumentResult). x ∷ xs) (argument_told a n t) (given_told args n t)

  argument_told : (a : Argument) (n : Node) (t : Tree) → given_by (argument_from_root a) n t ≡ given_by a (root_node t) t
  argument_told (constant_argument c) n t = refl
  argument_told (nodes_argument p) n t = ap nodes_given (path_told p n t)
  argument_told (condition l) n t = refl
  argument_told (result_argument c) n t = ap given_value (value_told c n t)
