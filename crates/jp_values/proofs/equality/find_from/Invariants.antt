use Rattle.std.proofs.Common.{◌≡◌, length}
use Rattle.jp_strings.specs.Points.{points_of}
use Rattle.jp_nodes.specs.Cursors.{children_from, nodes_from}
use Rattle.jp_values.specs.Members.{member_named, EndsWith}
use Rattle.jp_values.proofs.equality.find_from.Given as goal

abbrev pub invariant-loop-next : goal.invariant-loop-next
invariant-loop-next l = record {
  same : member_named (points_of l.name) (children_from l.from) ≡ member_named (points_of l.name) (children_from l.next);
  ends : EndsWith (children_from l.from) (children_from l.next);
}

abbrev pub decreases-loop-next : goal.decreases-loop-next
decreases-loop-next l = length (nodes_from l.next)
