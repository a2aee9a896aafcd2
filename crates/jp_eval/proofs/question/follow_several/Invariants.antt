-- The keys that are left lead from the node to where all keys lead from the first.
use Rattle.std.proofs.Common.{◌≡◌, [], ◌∷◌, drop}
use Rattle.jp_model.specs.Json.Tree.{Tree}
use Rattle.jp_model.specs.Meaning.Selecting.{nodes}
use Rattle.jp_nodes.specs.Cursors.{node_of}
use Rattle.jp_eval.specs.Keys.{keys_view}
use Rattle.jp_eval.proofs.question.follow_several.Given as goal

abbrev pub invariant-loop-key : goal.invariant-loop-key
invariant-loop-key l = record {
  left : (t : Tree) → nodes (keys_view (drop l.key-index l.keys)) (node_of l.node ∷ []) t ≡ nodes (keys_view l.keys) (node_of l.start ∷ []) t;
}
