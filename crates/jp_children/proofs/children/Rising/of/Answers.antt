-- The bounds that are kept select what the slice selects.
use Rattle.std.proofs.Common.{rules, ◌≡◌, ◌∙◌, ◌<ℤ◌, ℕ, List, ℤ, pos, negsuc, sym, ap, refl, arith, w64, Option, unwrap_or, true, ltb, subst, Bool, if◌then◌else◌, [], reverse}
use Rattle.std.specs.Prelude.{int_lt}
use Rattle.std.specs.Int.{int_max}
use Rattle.std.proofs.lemmas.Int.{ints}
use Rattle.std.proofs.lemmas.Bool.{lt-ltb}
use Rattle.jp_model.specs.Meaning.Nodes.{Node, child_count, children_where}
use Rattle.jp_model.specs.Meaning.Slices.{is_index, sliced, normal, upward, downward}
use Rattle.jp_nodes.specs.Cursors.{node_of}
use mir.Val.{to_z, of_z}
use Rattle.jp_children.specs.Walks.{rises}
use Rattle.jp_children.proofs.Slices.{rising_is}
use Rattle.jp_children.proofs.children.Rising.of.Goals as goal

up : (first last : Option ℤ) (step : ℤ) (n : Node) → pos 0 <ℤ step → children_where (is_index (upward (child_count n) first last step)) n ≡ sliced first last step n
up first last (negsuc k) n h = absurd (omega (arith, ints, h))
up first last (pos k) n h =
    let e : ltb 0 k ≡ true = lt-ltb 0 k (omega (arith, ints, h)) in
    let u = upward (child_count n) first last (pos k) in
    let d = downward (child_count n) first last (pos k) in
    let other : List Node = if int_lt (pos k) (pos 0) then reverse (children_where (is_index d) n) else [] in
    subst (λ (b : Bool). children_where (is_index u) n ≡ (if b then children_where (is_index u) n else other)) (sym e) refl

pub returns : goal.returns
returns c =
    let n : Node = node_of c.args.node in
    let s = c.args.slice in
    let len : ℕ = child_count n in
    let fit1 : to_z w64 (of_z w64 c.unwrap_or.result) ≡ c.unwrap_or.result = search rules in
    let fit2 : to_z w64 (of_z w64 c.unwrap_or-2.result) ≡ c.unwrap_or-2.result = search rules in
    let fit3 : to_z w64 (of_z w64 c.index_from_start.result) ≡ c.index_from_start.result = search rules in
    let low : c.max.result ≡ int_max (normal len (unwrap_or s.first (pos 0))) (pos 0) =
    c.max.ensures.value ∙ ap (λ (a : ℤ). int_max a (pos 0)) (fit3 ∙ (c.index_from_start.ensures ∙ ap (normal len) (fit1 ∙ c.unwrap_or.ensures))) in
    let high : c.index_from_start-2.result ≡ normal len (unwrap_or s.last (pos 9223372036854775807)) = c.index_from_start-2.ensures ∙ ap (normal len) (fit2 ∙ c.unwrap_or-2.ensures) in
    let fit4 : to_z w64 (of_z w64 c.max.result) ≡ c.max.result = search rules in
    let fit5 : to_z w64 (of_z w64 c.index_from_start-2.result) ≡ c.index_from_start-2.result = search rules in
    let fit6 : to_z w64 (of_z w64 s.step) ≡ s.step = search rules in
    let l : ℤ = to_z w64 (of_z w64 c.max.result) in
    let h : ℤ = to_z w64 (of_z w64 c.index_from_start-2.result) in
    ap (λ (z : ℤ). children_where (is_index (rises l h z)) n) fit6
    ∙ (rising_is c.args.node l h s.first s.last s.step (fit4 ∙ low) (fit5 ∙ high) ∙ up s.first s.last s.step n c.requires)
