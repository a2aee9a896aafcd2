-- Each test is one of the three.
use Rattle.std.proofs.Common.{rules, ◌≡◌, ◌∙◌, ℤ, pos, Bool, true, false, ◌&&◌, sym, ap, ap₂, arith, w64}
use Rattle.std.specs.Prelude.{int_le, int_lt}
use Rattle.std.proofs.lemmas.Int.{ints}
use Rattle.std.proofs.lemmas.Bool.{true≢false}
use Rattle.jp_model.specs.Meaning.Slices.{on_stride}
use mir.Val.{to_z, of_z}
use Rattle.jp_children.proofs.children.Rising.has_index.Goals as goal
use Rattle.jp_children.proofs.children.Rising.has_index.Goals.{then-low-index, else-low-index}

all_three : (a b s : Bool) → a ≡ true → b ≡ true → s ≡ (a && b && s)
all_three a b s e f = sym (ap (λ x. x && b && s) e ∙ ap (λ x. true && x && s) f)

second_false : (a b s : Bool) → a ≡ true → b ≡ false → false ≡ (a && b && s)
second_false a b s e f = sym (ap (λ x. x && b && s) e ∙ ap (λ x. true && x && s) f)

first_false : (a b s : Bool) → a ≡ false → false ≡ (a && b && s)
first_false a b s e = sym (ap (λ x. x && b && s) e)

pub is_on_stride-requires-clause-near : goal.is_on_stride-requires-clause-near
is_on_stride-requires-clause-near c =
    let low : int_le (to_z w64 (of_z w64 c.args.self.low)) (to_z w64 (of_z w64 c.from-index.result)) ≡ true =
    elim c.if-low-index.branch [
      | then-low-index w ↦ w.if-low-index.true
      | else-low-index w ↦ absurd (true≢false (sym c.if-index-high.true ∙ (w.value-is ∙ w.if-low-index.false)))
    ] in
    let start = c.args.self.from_start in
    let fit : to_z w64 (of_z w64 c.args.self.low) ≡ c.args.self.low = search rules in
    let here : to_z w64 (of_z w64 c.from-index.result) ≡ c.from-index.result = search rules in
    let is = c.from-index.ensures in
    (omega (arith, ints, low, start, fit, here, is), omega (arith, ints, low, start, fit, here, is))

pub returns-then-index-high : goal.returns-then-index-high
returns-then-index-high c =
    let r = c.args.self in
    let i : ℤ = pos c.args.index in
    let here : to_z w64 (of_z w64 c.from-index.result) ≡ i = (let h : to_z w64 (of_z w64 c.from-index.result) ≡ c.from-index.result = search rules in h ∙ c.from-index.ensures) in
    let low : to_z w64 (of_z w64 r.low) ≡ r.low = search rules in
    let high : to_z w64 (of_z w64 r.high) ≡ r.high = search rules in
    let step : to_z w64 (of_z w64 r.step) ≡ r.step = search rules in
    let both : (int_le r.low i ≡ true) × (int_lt i r.high ≡ true) =
    elim c.if-low-index.branch [
      | then-low-index w ↦ (sym (ap₂ (λ (a b : ℤ). int_le a b) low here) ∙ w.if-low-index.true, sym (ap₂ (λ (a b : ℤ). int_lt a b) here high) ∙ (sym w.value-is ∙ c.if-index-high.true))
      | else-low-index w ↦ absurd (true≢false (sym c.if-index-high.true ∙ (w.value-is ∙ w.if-low-index.false)))
    ] in
    c.is_on_stride.ensures
    ∙ (ap (λ (z : ℤ). on_stride z (to_z w64 (of_z w64 r.step)) (to_z w64 (of_z w64 c.from-index.result))) low
    ∙ (ap₂ (λ (a b : ℤ). on_stride r.low a b) step here ∙ all_three (int_le r.low i) (int_lt i r.high) (on_stride r.low r.step i) both.0 both.1))

pub returns-else-index-high : goal.returns-else-index-high
returns-else-index-high c =
    let r = c.args.self in
    let i : ℤ = pos c.args.index in
    let here : to_z w64 (of_z w64 c.from-index.result) ≡ i = (let h : to_z w64 (of_z w64 c.from-index.result) ≡ c.from-index.result = search rules in h ∙ c.from-index.ensures) in
    let low : to_z w64 (of_z w64 r.low) ≡ r.low = search rules in
    let high : to_z w64 (of_z w64 r.high) ≡ r.high = search rules in
    c.if-index-high.false
    ∙ elim c.if-low-index.branch [
      | then-low-index w ↦ second_false (int_le r.low i) (int_lt i r.high) (on_stride r.low r.step i) (sym (ap₂ (λ (a b : ℤ). int_le a b) low here) ∙ w.if-low-index.true) (sym (ap₂ (λ (a b : ℤ). int_lt a b) here high) ∙ (sym w.value-is ∙ c.if-index-high.false))
      | else-low-index w ↦ first_false (int_le r.low i) (int_lt i r.high) (on_stride r.low r.step i) (sym (ap₂ (λ (a b : ℤ). int_le a b) low here) ∙ w.if-low-index.false)
    ]
