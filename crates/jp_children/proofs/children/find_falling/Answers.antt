-- A step below 0 selects from the last to the first.
use Rattle.std.proofs.Common.{◌≡◌, ◌∙◌, ◌<ℤ◌, ◌≤ℤ◌, List, ℤ, pos, negsuc, map, reverse, ap, refl, arith, w64, Option, [], ◌∷◌}
use Rattle.std.proofs.lemmas.Int.{ints}
use mathlib.Core.List.{reverse_aux}
use Rattle.jp_model.specs.Meaning.Nodes.{Node, child_count, children_where}
use Rattle.jp_model.specs.Meaning.Slices.{is_index, sliced, downward}
use Rattle.jp_nodes.specs.declared.cursor.Cursor.{Cursor}
use Rattle.jp_nodes.specs.Cursors.{node_of}
use mir.Val.{of_z}
use Rattle.jp_children.proofs.children.find_falling.Goals as goal

map-onto : (xs ys : List Cursor) → map node_of (reverse_aux xs ys) ≡ reverse_aux (map node_of xs) (map node_of ys)
map-onto [] ys = refl
map-onto (x ∷ xs) ys = map-onto xs (x ∷ ys)

down : (first last : Option ℤ) (step : ℤ) (n : Node) → step <ℤ pos 0 → reverse (children_where (is_index (downward (child_count n) first last step)) n) ≡ sliced first last step n
down first last (negsuc k) n h = refl
down first last (pos k) n h = absurd (omega (arith, ints, h))

below : (step : ℤ) → step ≤ℤ pos 0 → (step ≡ pos 0 → ⊥) → step <ℤ pos 0
below step h z = omega (arith, ints, h, z)

pub falling_elements-requires : goal.falling_elements-requires
falling_elements-requires c = below c.args.slice.step c.requires (λ e. c.if-slice-eq0.false (ap (of_z w64) e))

pub returns-clause-nodes : goal.returns-clause-nodes
returns-clause-nodes c =
    let n : Node = node_of c.args.node in
    let s = c.args.slice in
    ap (map node_of) c.reverse.ensures.items
    ∙ (map-onto c.in_ok-found.found.items []
    ∙ (ap reverse c.in_ok-found.ensures.nodes ∙ down s.first s.last s.step n (below s.step c.requires (λ e. c.if-slice-eq0.false (ap (of_z w64) e)))))
