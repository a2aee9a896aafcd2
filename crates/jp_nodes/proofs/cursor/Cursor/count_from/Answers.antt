use Rattle.std.proofs.Common.{◌≡◌, ◌+◌, length, ap, arith}
use Rattle.jp_nodes.specs.Cursors.{nodes_from}
use Rattle.jp_nodes.proofs.cursor.Cursor.count_from.Goals as goal

pub overflow_add-count : goal.overflow_add-count
overflow_add-count c =
    let few = c.requires in
    let kept : c.loop-next.count + length (nodes_from c.loop-next.next) ≡ length (nodes_from c.args.first) = c.loop-next.invariant in
    let left = ap (λ o. length (nodes_from o)) c.in-Some.is in
    omega (arith, few, kept, left)
