use Rattle.std.proofs.Common.{◌≡◌, ◌+◌, ◌∙◌, ap, sym, arith}
use Rattle.jp_nodes.specs.Cursors.{place_of, node_of}
use Rattle.jp_nodes.proofs.Spots.{length-subtree}
use Rattle.jp_nodes.proofs.Places.{no_first_child, some_node}
use Rattle.jp_nodes.proofs.Cursors.{after_short, first_child}
use Rattle.jp_nodes.proofs.cursor.Cursor.first_child.Goals as goal

pub overflow_add-place : goal.overflow_add-place
overflow_add-place c =
    let self = c.args.self in
    let h = after_short self in
    let p = c.place-place.ensures.value in
    let s = some_node (node_of self).tree in
    let l = length-subtree (node_of self) in
    omega (arith, h, p, s, l)

pub returns-then-place-after : goal.returns-then-place-after
returns-then-place-after c =
    let self = c.args.self in
    let p = c.place-place.ensures.value in
    let a = c.after.ensures.value in
    let t = c.if-place-after.true in
    let at : place_of c.go_to.result ≡ place_of self + 1 = c.go_to.ensures.place ∙ ap (λ n. n + 1) p in
    let found = first_child self c.go_to.result c.go_to.ensures.line at (omega (arith, p, a, t)) in
    record { nodes = found.0; children = found.1; line = c.go_to.ensures.line; place = at }

pub returns-else-place-after : goal.returns-else-place-after
returns-else-place-after c =
    let self = c.args.self in
    let p = c.place-place.ensures.value in
    let a = c.after.ensures.value in
    let t = c.if-place-after.false in
    let found = no_first_child (node_of self) (omega (arith, p, a, t)) in
    record { nodes = sym found.0; children = sym found.1; line = tt; place = tt }
