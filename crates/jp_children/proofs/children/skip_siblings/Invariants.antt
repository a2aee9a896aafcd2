-- As many siblings were passed as turns were made.
use Rattle.std.proofs.Common.{◌≡◌, ◌+◌, ℕ, List}
use Rattle.std.specs.Prelude.{IfSome}
use Rattle.jp_model.specs.Meaning.Nodes.{Node}
use Rattle.jp_nodes.specs.Cursors.{line_of}
use Rattle.jp_children.specs.Walks.{IsAt}
use Rattle.jp_children.proofs.children.skip_siblings.Given as goal

abbrev pub invariant-loop-passed : goal.invariant-loop-passed
invariant-loop-passed l = record {
  at : (parent : Node) (index : ℕ) → IsAt parent index l.first → IsAt parent (index + l._passed) l.next;
  line : (line : List ℕ) → IfSome l.first (λ c. line_of c ≡ line) → IfSome l.next (λ c. line_of c ≡ line);
}
