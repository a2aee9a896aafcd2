use Rattle.std.proofs.Common.{◌≡◌, ℕ, ◌<◌, ◌∙◌, length, subst, sym, arith}
use Rattle.jp_model.specs.Meaning.Nodes.{root_node, subtree}
use Rattle.jp_nodes.specs.Cursors.{root_of}
use Rattle.jp_nodes.proofs.Cursors.{at_root, up_within, parent_is}
use Rattle.jp_nodes.proofs.cursor.Cursor.parent.Goals as goal

pub returns-then-place-eq0-clause-root : goal.returns-then-place-eq0-clause-root
returns-then-place-eq0-clause-root c = at_root c.args.self (sym c.place.ensures.value ∙ c.if-place-eq0.true)

not_first : (n p : ℕ) → n ≡ p → (n ≡ 0 → ⊥) → 0 < p
not_first n p e h = omega (arith, e, h)

pub go_to-requires : goal.go_to-requires
go_to-requires c = let self = c.args.self in subst (λ (n : ℕ). n < length (subtree (root_node (root_of self)))) (sym c.up.ensures) (up_within self)

pub returns-else-place-eq0 : goal.returns-else-place-eq0
returns-else-place-eq0 c =
    let self = c.args.self in
    let found = parent_is self c.go_to.result c.go_to.ensures.line (c.go_to.ensures.place ∙ c.up.ensures) (not_first _ _ c.place.ensures.value c.if-place-eq0.false) in
    record { root = tt; line = c.go_to.ensures.line; place = found.0; child = found.1; location = found.2 }
