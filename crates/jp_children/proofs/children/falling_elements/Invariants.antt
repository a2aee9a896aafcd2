-- The elements of the slice before the index were found.
use Rattle.std.proofs.Common.{◌≡◌, ◌++◌, map, length}
use Rattle.std.specs.Prelude.{IfSome}
use Rattle.jp_model.specs.Meaning.Slices.{is_index, downward}
use Rattle.jp_model.specs.Meaning.Nodes.{children_where}
use Rattle.jp_nodes.specs.Cursors.{line_of, node_of, nodes_from}
use Rattle.jp_children.specs.Found.{AreOf}
use Rattle.jp_children.specs.Walks.{IsAt}
use Rattle.jp_children.proofs.Walks.{chosen_from}
use Rattle.jp_children.proofs.children.falling_elements.Given as goal

abbrev pub invariant-loop-next : goal.invariant-loop-next
invariant-loop-next l =
    let passes = is_index (downward l.count l.slice.first l.slice.last l.slice.step) in
    record {
      at : IsAt (node_of l.node) l.index l.next;
      told : map node_of l.found.items ++ chosen_from passes (node_of l.node) l.index l.next ≡ children_where passes (node_of l.node);
      lines : AreOf (line_of l.node) l.found.items;
      line : IfSome l.next (λ c. line_of c ≡ line_of l.node);
    }

abbrev pub decreases-loop-next : goal.decreases-loop-next
decreases-loop-next l = length (nodes_from l.next)
