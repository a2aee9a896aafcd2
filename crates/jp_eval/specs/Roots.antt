-- Expressions that ask nothing of the current node, and those with `$` in place of it.
use Rattle.std.specs.Prelude.{Bool, true, false, ◌&&◌}
use Rattle.jp_model.specs.Query.Syntax.{Origin, root, current, Logical, or_all, and_all, negated, compare, exists, test, Logicals, no_logicals, logical, Comparable, constant, single, result, Argument, constant_argument, nodes_argument, condition, result_argument, Arguments, no_arguments, argument, Path, path, Call, call}

-- ---- which part of an expression asks nothing of the current node

-- a query begins at the root (RFC 9535, section 2.3.5.1)
abbrev pub path_asks_root : Path → Bool
path_asks_root (path root ss) = true
path_asks_root (path current ss) = false

abbrev mutual
  -- each query in a call does
  pub call_asks_root : Call → Bool
  call_asks_root (call f args) = arguments_ask_root args

  pub arguments_ask_root : Arguments → Bool
  arguments_ask_root no_arguments = true
  arguments_ask_root (argument a args) = argument_asks_root a && arguments_ask_root args

  -- no function of RFC 9535 is given an expression
  pub argument_asks_root : Argument → Bool
  argument_asks_root (constant_argument c) = true
  argument_asks_root (nodes_argument p) = path_asks_root p
  argument_asks_root (condition l) = false
  argument_asks_root (result_argument c) = call_asks_root c

-- each query in a side of a comparison does
abbrev pub side_asks_root : Comparable → Bool
side_asks_root (constant c) = true
side_asks_root (single p) = path_asks_root p
side_asks_root (result c) = call_asks_root c

abbrev mutual
  -- each query in an expression does
  pub logical_asks_root : Logical → Bool
  logical_asks_root (or_all ls) = logicals_ask_root ls
  logical_asks_root (and_all ls) = logicals_ask_root ls
  logical_asks_root (negated l) = logical_asks_root l
  logical_asks_root (compare a op b) = side_asks_root a && side_asks_root b
  logical_asks_root (exists p) = path_asks_root p
  logical_asks_root (test c) = call_asks_root c

  pub logicals_ask_root : Logicals → Bool
  logicals_ask_root no_logicals = true
  logicals_ask_root (logical l ls) = logical_asks_root l && logicals_ask_root ls

-- ---- `$` in place of `@`, but for the filters within

abbrev pub path_from_root : Path → Path
path_from_root (path o ss) = path root ss

abbrev mutual
  pub logical_from_root : Logical → Logical
  logical_from_root (or_all ls) = or_all (logicals_from_root ls)
  logical_from_root (and_all ls) = and_all (logicals_from_root ls)
  logical_from_root (negated l) = negated (logical_from_root l)
  logical_from_root (compare a op b) = compare (side_from_root a) op (side_from_root b)
  logical_from_root (exists p) = exists (path_from_root p)
  logical_from_root (test c) = test (call_from_root c)

  pub logicals_from_root : Logicals → Logicals
  logicals_from_root no_logicals = no_logicals
  logicals_from_root (logical l ls) = logical (logical_from_root l) (logicals_from_root ls)

  pub side_from_root : Comparable → Comparable
  side_from_root (constant c) = constant c
  side_from_root (single p) = single (path_from_root p)
  side_from_root (result c) = result (call_from_root c)

  pub call_from_root : Call → Call
  call_from_root (call f args) = call f (arguments_from_root args)

  pub arguments_from_root : Arguments → Arguments
  arguments_from_root no_arguments = no_arguments
  arguments_from_root (argument a args) = argument (argument_from_root a) (arguments_from_root args)

  pub argument_from_root : Argument → Argument
  argument_from_root (constant_argument c) = constant_argument c
  argument_from_root (nodes_argument p) = nodes_argument (path_from_root p)
  argument_from_root (condition l) = condition (logical_from_root l)
  argument_from_root (result_argument c) = result_argument (call_from_root c)

-- ---- what is asked of the root where that is meant, and of the current node where it is not

abbrev pub is_root : Origin → Bool
is_root root = true
is_root current = false

-- what is asked of the root asks nothing else
abbrev pub asks_from : Origin → Bool → Bool
asks_from root asks = asks
asks_from current asks = true

abbrev pub logical_from : Origin → Logical → Logical
logical_from root l = logical_from_root l
logical_from current l = l

abbrev pub side_from : Origin → Comparable → Comparable
side_from root a = side_from_root a
side_from current a = a

abbrev pub argument_from : Origin → Argument → Argument
argument_from root a = argument_from_root a
argument_from current a = a
