-- Trees without equal names: what is selected in them has none either.
use Rattle.std.proofs.Common.{◌≡◌, ℕ, ◌+◌, List, false, All}
use Rattle.std.proofs.lemmas.Bool.{or_parts}
use Rattle.jp_model.specs.Json.Faults.{names, has_repeated, has_duplicate, value_has_duplicate, children_have_duplicate}
use Rattle.jp_model.specs.Json.Tree.{Tree, node, Value, null, boolean, number, string, container, Children, no_child, child, value_of}
use Rattle.jp_model.specs.Meaning.Nodes.{Node, child_of, children, steps_from, steps_in, subtree}
use Rattle.jp_model.specs.Meaning.Selecting.{nodes}
use Rattle.jp_model.specs.Query.Syntax.{Segments}
use Rattle.jp_model.specs.Steps.{Step}
use Rattle.jp_laws.proofs.Reached.{Each, each_map, subtree_reached, nodes_reached, all_each, each_all}

abbrev pub IsDistinct : Node → Type 0
IsDistinct n = has_duplicate n.tree ≡ false

abbrev HasDistinct : Step × Tree → Type 0
HasDistinct p = has_duplicate p.1 ≡ false

steps_distinct : (index : ℕ) (cs : Children) → children_have_duplicate cs ≡ false → Each HasDistinct (steps_from index cs)
steps_distinct index no_child h = tt
steps_distinct index (child name t more) h = let p = or_parts (has_duplicate t) (children_have_duplicate more) h in (p.0, steps_distinct (index + 1) more p.1)

in_distinct : (v : Value) → value_has_duplicate v ≡ false → Each HasDistinct (steps_in v)
in_distinct null h = tt
in_distinct (boolean b) h = tt
in_distinct (number m e) h = tt
in_distinct (string x) h = tt
in_distinct (container kind cs) h = steps_distinct 0 cs (or_parts (has_repeated (names cs)) (children_have_duplicate cs) h).1

pub tree_distinct : (t : Tree) → has_duplicate t ≡ false → Each HasDistinct (steps_in (value_of t))
tree_distinct (node s v) h = in_distinct v h

pub children_distinct : (n : Node) → IsDistinct n → Each IsDistinct (children n)
children_distinct n h = each_map HasDistinct IsDistinct (child_of n) (λ p d. d) (steps_in (value_of n.tree)) (tree_distinct n.tree h)

pub subtree_distinct : (n : Node) → IsDistinct n → Each IsDistinct (subtree n)
subtree_distinct n h = subtree_reached IsDistinct children_distinct n h

pub nodes_distinct : (q : Segments) (list : List Node) (t : Tree) → Each IsDistinct list → Each IsDistinct (nodes q list t)
nodes_distinct q list t h = nodes_reached IsDistinct children_distinct q list t h

pub all_distinct : (q : Segments) (list : List Node) (t : Tree) → All IsDistinct list → All IsDistinct (nodes q list t)
all_distinct q list t h = each_all IsDistinct (nodes q list t) (nodes_distinct q list t (all_each IsDistinct list h))
