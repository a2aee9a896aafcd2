-- The sides of a comparison over a line's tree have no equal names, and their members have names.
use Rattle.std.proofs.Common.{◌≡◌, ℕ, ◌+◌, List, [], ◌∷◌, length, map, Bool, true, false, Option, Some, None, if◌then◌else◌, bytes_eq, codes, refl}
use Rattle.std.proofs.lemmas.Bool.{or_parts, and_parts, and_from, not-true, not_from_false}
use Rattle.jp_model.specs.declared.Framing.{Framing}
use Rattle.jp_model.specs.Json.Faults.{names, has_repeated, has_duplicate, value_has_duplicate, children_have_duplicate}
use Rattle.jp_model.specs.Json.Status.{parsed, HasStatus}
use Rattle.jp_model.specs.Json.Tree.{Tree, node, Value, null, boolean, number, string, container, array, object, Children, no_child, child, value_of}
use Rattle.jp_model.specs.Meaning.Functions.{single_value, literal_value, ArgumentResult, counted, length_of, value_function}
use Rattle.jp_model.specs.Meaning.Nodes.{Node, root_node, child_of, children, steps_from, steps_in, subtree}
use Rattle.jp_model.specs.Meaning.Selecting.{compared_value, path_nodes, given, given_by}
use Rattle.jp_model.specs.Query.Syntax.{Literal, null_literal, false_literal, true_literal, number_literal, string_literal, Comparable, constant, single, result, Argument, constant_argument, nodes_argument, condition, result_argument, Arguments, no_arguments, argument, Path, path, root, current, call}
use Rattle.jp_laws.specs.Nodes.{IsWithin}
use Rattle.jp_laws.specs.Values.{are_members, has_members, each_has_members, is_plain}
use Rattle.jp_laws.proofs.Descendants.{each_among, within_among}
use Rattle.jp_laws.proofs.Reached.{Each, subtree_reached, nodes_reached}
use Rattle.jp_laws.proofs.ValueEquality.{tree_members}
use Rattle.jp_laws.proofs.WayBack.{parsed_sound}

abbrev pub IsPlain : Node → Type 0
IsPlain n = is_plain (Some (value_of n.tree)) ≡ true

plain_by : (v : Value) → value_has_duplicate v ≡ false → has_members v ≡ true → is_plain (Some v) ≡ true
plain_by v d m = and_from _ _ (not_from_false (value_has_duplicate v) d) m

from_plain : (n : Node) (p : ℕ) (cs : Children) → children_have_duplicate cs ≡ false → each_has_members cs ≡ true → Each IsPlain (map (child_of n) (steps_from p cs))
from_plain n p no_child d m = tt
from_plain n p (child name (node s v) more) d m =
    let q = or_parts (value_has_duplicate v) (children_have_duplicate more) d in
    let r = and_parts (has_members v) (each_has_members more) m in
    (plain_by v q.0 r.0, from_plain n (p + 1) more q.1 r.1)

steps_plain : (n : Node) (v : Value) → value_has_duplicate v ≡ false → has_members v ≡ true → Each IsPlain (map (child_of n) (steps_in v))
steps_plain n null d m = tt
steps_plain n (boolean b) d m = tt
steps_plain n (number x e) d m = tt
steps_plain n (string x) d m = tt
steps_plain n (container array cs) d m = from_plain n 0 cs (or_parts (has_repeated (names cs)) (children_have_duplicate cs) d).1 m
steps_plain n (container object cs) d m = from_plain n 0 cs (or_parts (has_repeated (names cs)) (children_have_duplicate cs) d).1 (and_parts (are_members cs) (each_has_members cs) m).1

goes : (n : Node) → IsPlain n → Each IsPlain (children n)
goes n h = let p = and_parts _ _ h in steps_plain n (value_of n.tree) (not-true _ p.0) p.1

single_plain : (list : List Node) → Each IsPlain list → is_plain (single_value list) ≡ true
single_plain [] a = refl
single_plain (n ∷ []) a = a.0
single_plain (n ∷ m ∷ list) a = refl

literal_plain : (c : Literal) → is_plain (Some (literal_value c)) ≡ true
literal_plain null_literal = refl
literal_plain false_literal = refl
literal_plain true_literal = refl
literal_plain (number_literal x) = refl
literal_plain (string_literal x) = refl

length_plain : (v : Option Value) → is_plain (length_of v) ≡ true
length_plain None = refl
length_plain (Some null) = refl
length_plain (Some (boolean b)) = refl
length_plain (Some (number m e)) = refl
length_plain (Some (string x)) = refl
length_plain (Some (container kind cs)) = refl

-- the nodes of an argument are plain
abbrev GivenPlain : ArgumentResult → Type 0
GivenPlain g = Each IsPlain g.nodes

function_plain : (f : List ℕ) (gs : List ArgumentResult) → Each GivenPlain gs → is_plain (value_function f gs) ≡ true
function_plain f [] a = refl
function_plain f (g ∷ []) a = pick (bytes_eq f (codes "length")) (bytes_eq f (codes "count")) (bytes_eq f (codes "value"))
  where
    pick : (l c v : Bool) → is_plain (if l then length_of g.value else if c then Some (counted (length g.nodes)) else if v then single_value g.nodes else None) ≡ true
    pick true c v = length_plain g.value
    pick false true v = refl
    pick false false true = single_plain g.nodes a.0
    pick false false false = refl
function_plain f (g ∷ h ∷ gs) a = refl

module _ (n : Node) (t : Tree) (here : IsPlain n) (top : IsPlain (root_node t)) where
  path_plain : (p : Path) → Each IsPlain (path_nodes p n t)
  path_plain (path root ss) = nodes_reached IsPlain goes ss (root_node t ∷ []) t (top, tt)
  path_plain (path current ss) = nodes_reached IsPlain goes ss (n ∷ []) t (here, tt)

  argument_plain : (a : Argument) → GivenPlain (given_by a n t)
  argument_plain (constant_argument c) = tt
  argument_plain (nodes_argument p) = path_plain p
  argument_plain (condition l) = tt
  argument_plain (result_argument c) = tt

  arguments_plain : (args : Arguments) → Each GivenPlain (given args n t)
  arguments_plain no_arguments = tt
  arguments_plain (argument a args) = (argument_plain a, arguments_plain args)

  side_plain : (c : Comparable) → is_plain (compared_value c n t) ≡ true
  side_plain (constant c) = literal_plain c
  side_plain (single p) = single_plain (path_nodes p n t) (path_plain p)
  side_plain (result (call f args)) = function_plain f (given args n t) (arguments_plain args)

top_plain : (f : Framing) (line : List ℕ) (t : Tree) → HasStatus f line (parsed t) → IsPlain (root_node t)
top_plain f line t status = let s = parsed_sound f line t status in by_tree t s.2 (tree_members line t (s.0).value)
  where
    by_tree : (u : Tree) → has_duplicate u ≡ false → has_members (value_of u) ≡ true → is_plain (Some (value_of u)) ≡ true
    by_tree (node x v) d m = plain_by v d m

-- each node of a line's tree is plain
pub node_plain : (f : Framing) (line : List ℕ) (t : Tree) → HasStatus f line (parsed t) → (n : Node) → IsWithin (root_node t) n → IsPlain n
node_plain f line t status n w = each_among IsPlain n (subtree (root_node t)) (subtree_reached IsPlain goes (root_node t) (top_plain f line t status)) (within_among (root_node t) n w)

pub sides_plain : (f : Framing) (line : List ℕ) (t : Tree) → HasStatus f line (parsed t) → (n : Node) → IsWithin (root_node t) n → (c : Comparable) → is_plain (compared_value c n t) ≡ true
sides_plain f line t status n w c = side_plain n t (node_plain f line t status n w) (top_plain f line t status) c
