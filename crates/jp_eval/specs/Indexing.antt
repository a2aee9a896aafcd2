-- What is known of the elements of one array while several are selected by their indexes.
use Rattle.std.specs.Prelude.{◌≡◌, IfSome}
use Rattle.jp_model.specs.Meaning.Nodes.{child_count}
use Rattle.jp_nodes.specs.Cursors.{line_of, node_of}
use Rattle.jp_children.specs.Walks.{IsAt}
use Rattle.jp_eval.specs.declared.indexing.Elements.{Elements}

-- the count is that of its children, and the child that was found last is the one at its position
pub record AreKnown (elements : Elements) : Type 0 where
  pub count : IfSome elements.count (λ n. n ≡ child_count (node_of elements.node))
  pub at : IsAt (node_of elements.node) elements.position elements.last
  pub line : IfSome elements.last (λ c. line_of c ≡ line_of elements.node)
