use Rattle.std.proofs.Common.{◌∙◌, sym, ap₂}
use Rattle.jp_values.specs.Scalars.{scalars_equal}
use Rattle.jp_values.proofs.Sides.{sides_equal}
use Rattle.jp_values.proofs.comparison.both_equal.Goals.{in_default-via-in-Node+in_default, in_default-via-in-Nothing+in_default, in_default-via-in_default}
use Rattle.jp_values.proofs.comparison.both_equal.Goals as goal

pub returns-in_default : goal.returns-in_default
returns-in_default c =
    let l = c.args.left in
    let r = c.args.right in
    c.equal-in_default.ensures ∙ (ap₂ scalars_equal c.of_value.ensures c.of_value-in_default.ensures ∙ elim c.in_default.branch [
      | in_default-via-in-Node+in_default w ↦ sides_equal l r (λ x y a b. w.in_default.not-Node-1 y b) (λ a b. let e = sym w.in_default.is-0 ∙ a in absurd (cc))
      | in_default-via-in-Nothing+in_default w ↦ sides_equal l r (λ x y a b. let e = sym w.in_default.is-0 ∙ a in absurd (cc)) (λ a b. w.in_default.not-Nothing-1 b)
      | in_default-via-in_default w ↦ sides_equal l r (λ x y a b. w.in_default.not-Node-0 x a) (λ a b. w.in_default.not-Nothing-0 a)
    ])
