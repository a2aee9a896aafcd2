-- One line more is looked at.
use Rattle.std.proofs.Common.{◌≡◌, ◌∙◌, ◌+◌, ◌++◌, ℕ, List, [], ◌∷◌, Bool, Global, Vec, take, sym, ap, append-nil, arith, if◌then◌else◌}
use Rattle.jp_model.specs.Numbered.{numbers_where}
use Rattle.jp_model.specs.Plans.{is_tree}
use Rattle.jp_store.specs.Collections.{statuses_in, line_status}
use Rattle.jp_plan.specs.Passing.{is_told_tree}
use Rattle.jp_plan.proofs.Passing.{trees_more}
use Rattle.jp_plan.proofs.Starts.{tree_told}
use Rattle.jp_plan.proofs.plan.Plan.tree_lines.Goals.{then-is_tree+in_ok-push, else-is_tree}
use Rattle.jp_plan.proofs.plan.Plan.tree_lines.Goals as goal

pub loop-before-preserved : goal.loop-before-preserved
loop-before-preserved c =
    let over = c.args.self.now.store.now in
    let k = c.loop-before.before in
    let told : c.is_tree.result ≡ is_tree (line_status (k + 1) over) = c.is_tree.ensures ∙ (ap is_told_tree c.line_status.ensures ∙ tree_told (line_status (k + 1) over)) in
    let more = trees_more over k c.is_tree.result (omega (arith, c.line_count-before-end.ensures)) told in
    let first = numbers_where is_tree 1 (take k (statuses_in over)) in
    let by = λ (b : Bool) (e : c.is_tree.result ≡ b). more ∙ ap (λ (d : Bool). first ++ (if d then (k + 1) ∷ [] else [])) e in
    elim c.if-is_tree.branch [
      | then-is_tree+in_ok-push w ↦
          ap (λ (v : Vec ℕ Global). v.items) w.lines-is ∙ (w.in_ok-push.ensures.items ∙ (ap (λ (l : List ℕ). l ++ (k + 1) ∷ []) c.loop-before.invariant ∙ sym (by _ w.if-is_tree.true)))
      | else-is_tree w ↦ ap (λ (v : Vec ℕ Global). v.items) w.lines-is ∙ (c.loop-before.invariant ∙ sym (by _ w.if-is_tree.false ∙ append-nil first))
    ]
