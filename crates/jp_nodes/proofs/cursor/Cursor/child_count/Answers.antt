use Rattle.std.proofs.Common.{length, ap, arith}
use Rattle.jp_nodes.proofs.Places.{length-children}
use Rattle.jp_nodes.proofs.Cursors.{children_few}
use Rattle.jp_nodes.specs.Cursors.{node_of}
use Rattle.jp_nodes.proofs.cursor.Cursor.child_count.Goals as goal

pub count_from-requires : goal.count_from-requires
count_from-requires c =
    let few = children_few c.args.self in
    let all = ap length c.first_child.ensures.nodes in
    omega (arith, few, all)

pub returns-clause-children : goal.returns-clause-children
returns-clause-children c =
    let all = length-children (node_of c.args.self) in
    let from = ap length c.first_child.ensures.nodes in
    let counted = c.count_from.ensures in
    omega (arith, all, from, counted)
