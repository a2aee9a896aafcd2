-- No child has an index below 0 or so large.
use Rattle.std.proofs.Common.{rules, ◌+◌, sym, subst, Option, ℕ, nat_abs, ◌≡◌, ◌∙◌, ◌<ℤ◌, ◌⊎◌, inl, inr, ℤ, pos, ap, arith, w64}
use Rattle.std.proofs.lemmas.Bool.{true≢false}
use Rattle.std.proofs.lemmas.Int.{ints}
use mir.Val.{to_z, of_z}
use Rattle.jp_model.specs.Steps.{same_int}
use Rattle.jp_model.specs.Meaning.Nodes.{children_where, child_count}
use Rattle.jp_model.specs.Meaning.Slices.{is_index, indexed, normal}
use Rattle.jp_nodes.specs.Cursors.{line_of, node_of}
use Rattle.jp_nodes.specs.declared.cursor.Cursor.{Cursor}
use Rattle.jp_nodes.proofs.Cursors.{standing}
use Rattle.jp_children.specs.Walks.{IsAt}
use Rattle.jp_children.proofs.Elements.{none_outside, nth_is, whole_again}
use Rattle.jp_children.proofs.NoMembers.{no_elements, nameless}
use Rattle.jp_children.proofs.Walks.{at_first}
use Rattle.jp_children.proofs.children.find_element.Goals as goal
use Rattle.jp_children.proofs.children.find_element.Goals.{then-position-lt0-via-then-position-lt0, then-position-lt0-via-else-position-lt0+then-position-gt4294967295}

pub returns-then-not-is_array-clause-nodes : goal.returns-then-not-is_array-clause-nodes
returns-then-not-is_array-clause-nodes c =
    let n = node_of c.args.node in
    sym (no_elements (line_of c.args.node) (same_int (normal (child_count n) c.args.index)) n (standing c.args.node).spells (λ is. true≢false (sym (c.is_array.ensures.1 is) ∙ c.if-not-is_array.true)))

pub returns-then-position-lt0-clause-nodes : goal.returns-then-position-lt0-clause-nodes
returns-then-position-lt0-clause-nodes c =
    let position : ℤ = c.index_from_start-position.result in
    let fits : to_z w64 (of_z w64 c.args.index) ≡ c.args.index = search rules in
    let outside : (position <ℤ pos 0) ⊎ (pos 4294967295 <ℤ position) =
    elim c.then-position-lt0.branch [
      | then-position-lt0-via-then-position-lt0 w ↦ inl (omega (arith, ints))
      | then-position-lt0-via-else-position-lt0+then-position-gt4294967295 w ↦ inr (omega (arith, ints))
    ] in
    none_outside c.args.node position outside ∙ ap (λ (z : ℤ). children_where (is_index (same_int z)) (node_of c.args.node)) c.index_from_start-position.ensures
    ∙ ap (λ (z : ℤ). indexed z (node_of c.args.node)) fits

pub returns-clause-nodes : goal.returns-clause-nodes
returns-clause-nodes c =
    let n = node_of c.args.node in
    let raw : ℤ = to_z w64 (of_z w64 c.index_from_start-position.result) in
    let position : ℕ = nat_abs raw in
    let at : IsAt n position c.skip_siblings.result = subst (λ k. IsAt n k c.skip_siblings.result) (let e : 0 + position ≡ position = omega arith in e) (c.skip_siblings.ensures.at n 0 (at_first n c.first_child.result c.first_child.ensures.nodes c.first_child.ensures.children)) in
    let kept : raw ≡ c.index_from_start-position.result = search rules in
    let fits : to_z w64 (of_z w64 c.args.index) ≡ c.args.index = search rules in
    nth_is n position c.skip_siblings.result at (λ d e. nameless (line_of c.args.node) n position d (standing c.args.node).spells (c.is_array.ensures.0 c.if-not-is_array.false) (subst (λ (r : Option Cursor). IsAt n position r) e at))
    ∙ (ap (λ (z : ℤ). children_where (is_index (same_int z)) n) (whole_again raw c.if-position-lt0.false ∙ (kept ∙ c.index_from_start-position.ensures)) ∙ ap (λ (z : ℤ). indexed z n) fits)
