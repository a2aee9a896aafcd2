-- The spans of the nodes so far are appended.
use Rattle.std.proofs.Common.{◌≡◌, ◌++◌, map, take}
use Rattle.jp_model.specs.Json.Tree.{span}
use Rattle.jp_model.specs.Meaning.Nodes.{Node}
use Rattle.jp_nodes.specs.Cursors.{node_of}
use Rattle.jp_grep.proofs.marks.push_spans.Given as goal

abbrev pub invariant-loop-node : goal.invariant-loop-node
invariant-loop-node l = l.spans.items ≡ l.fn.spans.items ++ map (λ (found : Node). span found.tree) (map node_of (take l.node-index l.nodes))
