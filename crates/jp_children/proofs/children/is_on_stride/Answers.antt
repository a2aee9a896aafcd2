-- The rest of the division is tested from both sides.
use Rattle.std.proofs.Common.{rules, ◌≡◌, ◌∙◌, ℤ, pos, ◌-ℤ◌, true, false, ◌&&◌, sym, ap, ap₂, w64, arith}
use Rattle.std.specs.Prelude.{int_le, int_rem, FitsSigned}
use Rattle.std.proofs.lemmas.Int.{ints, rem_is}
use Rattle.std.proofs.lemmas.Bool.{and_left}
use Rattle.jp_model.specs.Steps.{same_int}
use mir.Val.{to_z, of_z}
use Rattle.jp_children.proofs.children.is_on_stride.Goals as goal

same_then : (r : ℤ) → int_le r (pos 0) ≡ true → int_le (pos 0) r ≡ same_int r (pos 0)
same_then r h = sym (ap (λ b. b && int_le (pos 0) r) h)

same_else : (r : ℤ) → int_le r (pos 0) ≡ false → int_le r (pos 0) ≡ same_int r (pos 0)
same_else r h = h ∙ sym (and_left (int_le r (pos 0)) (int_le (pos 0) r) h)

-- what the code divides is the rest
rest_is : (index start step : ℤ) → to_z w64 (of_z w64 index) ≡ index → to_z w64 (of_z w64 start) ≡ start → FitsSigned w64 (index -ℤ start) → FitsSigned w64 step
    → to_z w64 (of_z w64 (int_rem (to_z w64 (of_z w64 (to_z w64 (of_z w64 index) -ℤ to_z w64 (of_z w64 start)))) (to_z w64 (of_z w64 step)))) ≡ int_rem (index -ℤ start) step
rest_is index start step e f fits some =
    ap (λ (d : ℤ). to_z w64 (of_z w64 (int_rem (to_z w64 (of_z w64 d)) (to_z w64 (of_z w64 step))))) (ap₂ (λ (a b : ℤ). a -ℤ b) e f)
    ∙ rem_is w64 (index -ℤ start) step fits some

pub returns-then-rest-le0 : goal.returns-then-rest-le0
returns-then-rest-le0 c =
    let near = c.requires.near in
    let one : to_z w64 (of_z w64 c.args.index) ≡ c.args.index = search rules in
    let two : to_z w64 (of_z w64 c.args.start) ≡ c.args.start = search rules in
    let rest = rest_is c.args.index c.args.start c.args.step one two (omega (arith, ints, near)) (search rules) in
    ap (λ (r : ℤ). int_le (pos 0) r) rest ∙ same_then (int_rem (c.args.index -ℤ c.args.start) c.args.step) (sym (ap (λ (r : ℤ). int_le r (pos 0)) rest) ∙ c.if-rest-le0.true)

pub returns-else-rest-le0 : goal.returns-else-rest-le0
returns-else-rest-le0 c =
    let near = c.requires.near in
    let one : to_z w64 (of_z w64 c.args.index) ≡ c.args.index = search rules in
    let two : to_z w64 (of_z w64 c.args.start) ≡ c.args.start = search rules in
    let rest = rest_is c.args.index c.args.start c.args.step one two (omega (arith, ints, near)) (search rules) in
    ap (λ (r : ℤ). int_le r (pos 0)) rest ∙ same_else (int_rem (c.args.index -ℤ c.args.start) c.args.step) (sym (ap (λ (r : ℤ). int_le r (pos 0)) rest) ∙ c.if-rest-le0.false)
