-- The nodes so far are counted, each at the place of its path, and what is folded has many names.
use Rattle.std.proofs.Common.{◌≡◌, ◌+◌, ◌++◌, ℕ, List, drop, length, take, map}
use Rattle.jp_model.specs.Meaning.Nodes.{root_node, subtree}
use Rattle.jp_nodes.specs.Cursors.{node_of, root_of}
use Rattle.jp_survey.specs.Foldings.{folded_by}
use Rattle.jp_survey.specs.Paths.{Line, mark_of, marks_of, strides_of}
use Rattle.jp_survey.specs.Seen.{HasCome, IsGoing}
use Rattle.jp_survey.specs.Trees.{AreKnown, IsPlaceAt, IsTree, tree_folds}
use Rattle.jp_survey.proofs.tree.Tree.count_nodes.Given as goal

abbrev pub invariant-loop-number : goal.invariant-loop-number
invariant-loop-number l = record {
  tree : IsTree l.self;
  top : IsPlaceAt l.self l.top (folded_by (tree_folds l.self) (strides_of (node_of l.node).location));
  known : AreKnown l.self (subtree (root_node (root_of l.node))) l.first l.number;
  many : l.first + length l.self.places.items ≡ l.number;
  lines : l.self.lines ≡ l.line;
  going : (limit : ℕ) (lines : List Line) (line : Line) → HasCome limit lines line (node_of l.node).location l.initial.self
      → IsGoing limit lines (marks_of line ++ map mark_of (take (length l.self.places.items) (drop l.first (subtree (root_node (root_of l.node)))))) (node_of l.node).location l.self;
}
