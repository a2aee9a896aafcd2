use Rattle.std.proofs.Common.{◌≡◌, ℕ, ◌+◌, ◌≤◌, length, slice_range, subst, sym, arith}
use Rattle.jp_model.specs.Meaning.Nodes.{root_node, subtree}
use Rattle.jp_nodes.specs.Cursors.{place_of, root_of, node_of}
use Rattle.jp_nodes.proofs.Cursors.{after_is, after_short, after_within, subtree-range}
use Rattle.jp_nodes.proofs.cursor.Cursor.after.Goals as goal

pub overflow_add-result : goal.overflow_add-result
overflow_add-result c =
    let self = c.args.self in
    let p = c.place.ensures.value in
    let b = c.below.ensures in
    let a = after_is self in
    let s = after_short self in
    omega (arith, p, b, a, s)

pub overflow_add-result-2 : goal.overflow_add-result-2
overflow_add-result-2 c =
    let self = c.args.self in
    let p = c.place.ensures.value in
    let b = c.below.ensures in
    let a = after_is self in
    let s = after_short self in
    omega (arith, p, b, a, s)

pub returns : goal.returns
returns c =
    let self = c.args.self in
    let p = c.place.ensures.value in
    let b = c.below.ensures in
    let a = after_is self in
    let e : place_of self + length (subtree (node_of self)) ≡ c.below.result + c.place.result + 1 = omega (arith, p, b, a) in
    record {
      value = sym e;
      within = subst (λ (n : ℕ). n ≤ length (subtree (root_node (root_of self)))) e (after_within self);
      nodes = subst (λ (n : ℕ). slice_range (subtree (root_node (root_of self))) (place_of self) n ≡ subtree (node_of self)) e (subtree-range self);
    }
