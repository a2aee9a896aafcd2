use Rattle.std.proofs.Common.{◌≡◌, ◌+◌, ◌*◌, ◌<◌, ◌∙◌, length, sym, subst, arith, IsTrue, false}
use Rattle.jp_model.specs.Meaning.Nodes.{subtree}
use Rattle.jp_nodes.specs.Cursors.{place_of, node_of}
use Rattle.jp_nodes.specs.Forms.{words_in}
use Rattle.jp_nodes.proofs.Cursors.{words_counted, next_sibling, same_parent, other_parent, at_end, no_sibling}
use Rattle.jp_nodes.proofs.cursor.Cursor.next_sibling.Goals as goal

pub go_to-next-requires : goal.go_to-next-requires
go_to-next-requires c =
    let w = words_counted c.args.self in
    let n = c.has_node.ensures.0 c.if-not-has_node.false in
    omega (arith, w, n)

pub returns-then-not-has_node : goal.returns-then-not-has_node
returns-then-not-has_node c =
    let self = c.args.self in
    let w = words_counted self in
    let t = c.if-not-has_node.true in
    let none : 3 * c.after-place.result < length (words_in self.bits self.words.now) → ⊥ = λ h. let no : IsTrue false = subst IsTrue t (c.has_node.ensures.1 h) in absurd (cc) in
    let v = c.after-place.ensures.value in
    let found = no_sibling self (at_end self (omega (arith, w, none, v))) in
    record { nodes = sym found.0; children = sym found.1; line = tt; place = tt }

pub returns-then-up : goal.returns-then-up
returns-then-up c =
    let self = c.args.self in
    let next = c.go_to-next.result in
    let line = c.go_to-next.ensures.line in
    let at : place_of next ≡ place_of self + length (subtree (node_of self)) = c.go_to-next.ensures.place ∙ c.after-place.ensures.value in
    let same = c.if-up.true in
    let own = c.up-2.ensures in
    let other = c.up.ensures in
    let found = next_sibling self next line at (same_parent self next line at (omega (arith, same, own, other))) in
    record { nodes = found.0; children = found.1; line = line; place = at }

pub returns-else-up : goal.returns-else-up
returns-else-up c =
    let self = c.args.self in
    let next = c.go_to-next.result in
    let line = c.go_to-next.ensures.line in
    let at : place_of next ≡ place_of self + length (subtree (node_of self)) = c.go_to-next.ensures.place ∙ c.after-place.ensures.value in
    let found = no_sibling self (other_parent self next line at (λ e. c.if-up.false (c.up.ensures ∙ (e ∙ sym c.up-2.ensures)))) in
    record { nodes = sym found.0; children = sym found.1; line = tt; place = tt }
