-- Each node of a line's tree has strings and names of scalars, and is not too deep.
use Rattle.std.proofs.Common.{ℕ, ◌+◌, ◌≤◌, List, map, arith}
use Rattle.jp_model.specs.declared.Framing.{Framing}
use Rattle.jp_model.specs.Json.Faults.{depth, value_depth, greatest_depth}
use Rattle.jp_model.specs.Json.Status.{parsed, HasStatus}
use Rattle.jp_model.specs.Json.Tree.{Tree, node, Value, null, boolean, number, string, container, Container, Children, no_child, child, value_of}
use Rattle.jp_model.specs.Meaning.Nodes.{Node, root_node, child_of, children, steps_from, steps_in, subtree}
use Rattle.jp_laws.specs.JsonTexts.{CanBeSaid, CanBeValue, CanBeChildren}
use Rattle.jp_laws.specs.Nodes.{IsWithin}
use Rattle.jp_laws.proofs.Descendants.{each_among, within_among}
use Rattle.jp_laws.proofs.JsonShapes.{status_sayable}
use Rattle.jp_laws.proofs.Reached.{Each, subtree_reached}

pub record IsSayable (n : Node) : Type 0 where
  pub said : CanBeSaid n.tree
  pub shallow : depth n.tree ≤ 512

from_sayable : (n : Node) (p : ℕ) (kind : Container) (cs : Children) → CanBeChildren kind cs → greatest_depth cs ≤ 512 → Each IsSayable (map (child_of n) (steps_from p cs))
from_sayable n p kind no_child h l = tt
from_sayable n p kind (child name t more) h l = (record { said = h.1; shallow = omega arith }, from_sayable n (p + 1) kind more h.2 (omega arith))

value_sayable : (n : Node) (v : Value) → CanBeValue v → value_depth v ≤ 512 → Each IsSayable (map (child_of n) (steps_in v))
value_sayable n null h l = tt
value_sayable n (boolean b) h l = tt
value_sayable n (number m e) h l = tt
value_sayable n (string x) h l = tt
value_sayable n (container kind cs) h l = from_sayable n 0 kind cs h (omega arith)

tree_sayable : (n : Node) (t : Tree) → CanBeSaid t → depth t ≤ 512 → Each IsSayable (map (child_of n) (steps_in (value_of t)))
tree_sayable n (node s v) h l = value_sayable n v h l

goes : (n : Node) → IsSayable n → Each IsSayable (children n)
goes n h = tree_sayable n n.tree h.said h.shallow

pub node_sayable : (f : Framing) (line : List ℕ) (t : Tree) → HasStatus f line (parsed t) → (n : Node) → IsWithin (root_node t) n → IsSayable n
node_sayable f line t status n w =
    let s = status_sayable f line t status in
    each_among IsSayable n (subtree (root_node t)) (subtree_reached IsSayable goes (root_node t) (record { said = s.0; shallow = s.1 })) (within_among (root_node t) n w)
