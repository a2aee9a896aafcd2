-- The bounds are those of the slice, and each test is one of its tests.
use Rattle.std.proofs.Common.{rules, ◌≡◌, ◌∙◌, ℕ, ℤ, pos, ◌-ℤ◌, Bool, true, false, ◌&&◌, sym, ap, ap₂, arith, w64, unwrap_or}
use Rattle.std.specs.Prelude.{int_le, int_lt}
use Rattle.std.specs.Int.{int_min, int_max}
use Rattle.std.proofs.lemmas.Int.{ints, clamps, to_z-of_z}
use Rattle.std.proofs.lemmas.Bool.{true≢false}
use Rattle.jp_model.specs.Meaning.Slices.{clamped, normal, on_stride}
use mir.Val.{to_z, of_z}
use Rattle.jp_children.proofs.children.has_downward.Goals as goal
use Rattle.jp_children.proofs.children.has_downward.Goals.{then-low-index, else-low-index}

pub is_on_stride-requires-clause-near : goal.is_on_stride-requires-clause-near
is_on_stride-requires-clause-near c = (omega (arith, ints, clamps), omega (arith, ints, clamps))

all_three : (a b s : Bool) → a ≡ true → b ≡ true → s ≡ (a && b && s)
all_three a b s e f = sym (ap (λ x. x && b && s) e ∙ ap (λ x. true && x && s) f)

second_false : (a b s : Bool) → a ≡ true → b ≡ false → false ≡ (a && b && s)
second_false a b s e f = sym (ap (λ x. x && b && s) e ∙ ap (λ x. true && x && s) f)

first_false : (a b s : Bool) → a ≡ false → false ≡ (a && b && s)
first_false a b s e = sym (ap (λ x. x && b && s) e)

pub returns-then-index-high : goal.returns-then-index-high
returns-then-index-high c =
    let len : ℕ = c.args.count in
    let i : ℤ = pos c.args.index in
    let lens : to_z w64 (of_z w64 c.from-len.result) ≡ pos len = (let h : to_z w64 (of_z w64 c.from-len.result) ≡ c.from-len.result = search rules in h ∙ c.from-len.ensures) in
    let here : to_z w64 (of_z w64 c.from-index.result) ≡ i = (let h : to_z w64 (of_z w64 c.from-index.result) ≡ c.from-index.result = search rules in h ∙ c.from-index.ensures) in
    let fit1 : to_z w64 (of_z w64 c.unwrap_or.result) ≡ c.unwrap_or.result = search rules in
    let fit2 : to_z w64 (of_z w64 c.normal.result) ≡ c.normal.result = search rules in
    let fit3 : to_z w64 (of_z w64 c.max.result) ≡ c.max.result = search rules in
    let fit4 : to_z w64 (of_z w64 c.unwrap_or-2.result) ≡ c.unwrap_or-2.result = search rules in
    let fit5 : to_z w64 (of_z w64 c.normal-2.result) ≡ c.normal-2.result = search rules in
    let fit6 : to_z w64 (of_z w64 c.max-2.result) ≡ c.max-2.result = search rules in
    let fit7 : to_z w64 (of_z w64 c.min-low.result) ≡ c.min-low.result = search rules in
    let fit8 : to_z w64 (of_z w64 c.min-high.result) ≡ c.min-high.result = search rules in
    let step : to_z w64 (of_z w64 c.args.step) ≡ c.args.step = search rules in
    let less : to_z w64 (of_z w64 (to_z w64 (of_z w64 c.from-len.result) -ℤ pos 1)) ≡ pos len -ℤ pos 1 =
    (let h : to_z w64 (of_z w64 (to_z w64 (of_z w64 c.from-len.result) -ℤ pos 1)) ≡ to_z w64 (of_z w64 c.from-len.result) -ℤ pos 1 = to_z-of_z w64 (to_z w64 (of_z w64 c.from-len.result) -ℤ pos 1) (omega (arith, ints, lens)) in h ∙ ap (λ (z : ℤ). z -ℤ pos 1) lens) in
    let H : ℤ = clamped (pos 0 -ℤ pos 1) (pos len -ℤ pos 1) (normal len (unwrap_or c.args.first (pos len -ℤ pos 1))) in
    let L : ℤ = clamped (pos 0 -ℤ pos 1) (pos len -ℤ pos 1) (normal len (unwrap_or c.args.last (pos 0 -ℤ pos len -ℤ pos 1))) in
    let high : to_z w64 (of_z w64 c.min-high.result) ≡ H =
    fit8 ∙ (c.min-high.ensures.value ∙ ap₂ (λ (a b : ℤ). int_min a b) (fit3 ∙ (c.max.ensures.value ∙ ap (λ (a : ℤ). int_max a (pos 0 -ℤ pos 1)) (fit2 ∙ (c.normal.ensures ∙ ap (normal len) (fit1 ∙ (c.unwrap_or.ensures ∙ ap (unwrap_or c.args.first) less)))))) less) in
    let minus : to_z w64 (of_z w64 (pos 0 -ℤ to_z w64 (of_z w64 c.from-len.result))) ≡ pos 0 -ℤ pos len =
    to_z-of_z w64 (pos 0 -ℤ to_z w64 (of_z w64 c.from-len.result)) (omega (arith, ints, lens)) ∙ ap (λ (z : ℤ). pos 0 -ℤ z) lens in
    let least : to_z w64 (of_z w64 (to_z w64 (of_z w64 (pos 0 -ℤ to_z w64 (of_z w64 c.from-len.result))) -ℤ pos 1)) ≡ pos 0 -ℤ pos len -ℤ pos 1 =
    to_z-of_z w64 (to_z w64 (of_z w64 (pos 0 -ℤ to_z w64 (of_z w64 c.from-len.result))) -ℤ pos 1) (omega (arith, ints, minus)) ∙ ap (λ (z : ℤ). z -ℤ pos 1) minus in
    let low : to_z w64 (of_z w64 c.min-low.result) ≡ L =
    fit7 ∙ (c.min-low.ensures.value ∙ ap₂ (λ (a b : ℤ). int_min a b) (fit6 ∙ (c.max-2.ensures.value ∙ ap (λ (a : ℤ). int_max a (pos 0 -ℤ pos 1)) (fit5 ∙ (c.normal-2.ensures ∙ ap (normal len) (fit4 ∙ (c.unwrap_or-2.ensures ∙ ap (unwrap_or c.args.last) least)))))) less) in
    let both : (int_lt L i ≡ true) × (int_le i H ≡ true) =
    elim c.if-low-index.branch [
      | then-low-index w ↦ (sym (ap₂ (λ (a b : ℤ). int_lt a b) low here) ∙ w.if-low-index.true, sym (ap₂ (λ (a b : ℤ). int_le a b) here high) ∙ (sym w.value-is ∙ c.if-index-high.true))
      | else-low-index w ↦ absurd (true≢false (sym c.if-index-high.true ∙ (w.value-is ∙ w.if-low-index.false)))
    ] in
    c.is_on_stride.ensures
    ∙ (ap (λ (z : ℤ). on_stride z (to_z w64 (of_z w64 c.args.step)) (to_z w64 (of_z w64 c.from-index.result))) high
    ∙ (ap₂ (λ (a b : ℤ). on_stride H a b) step here ∙ all_three (int_lt L i) (int_le i H) (on_stride H c.args.step i) both.0 both.1))

pub returns-else-index-high : goal.returns-else-index-high
returns-else-index-high c =
    let len : ℕ = c.args.count in
    let i : ℤ = pos c.args.index in
    let lens : to_z w64 (of_z w64 c.from-len.result) ≡ pos len = (let h : to_z w64 (of_z w64 c.from-len.result) ≡ c.from-len.result = search rules in h ∙ c.from-len.ensures) in
    let here : to_z w64 (of_z w64 c.from-index.result) ≡ i = (let h : to_z w64 (of_z w64 c.from-index.result) ≡ c.from-index.result = search rules in h ∙ c.from-index.ensures) in
    let fit1 : to_z w64 (of_z w64 c.unwrap_or.result) ≡ c.unwrap_or.result = search rules in
    let fit2 : to_z w64 (of_z w64 c.normal.result) ≡ c.normal.result = search rules in
    let fit3 : to_z w64 (of_z w64 c.max.result) ≡ c.max.result = search rules in
    let fit4 : to_z w64 (of_z w64 c.unwrap_or-2.result) ≡ c.unwrap_or-2.result = search rules in
    let fit5 : to_z w64 (of_z w64 c.normal-2.result) ≡ c.normal-2.result = search rules in
    let fit6 : to_z w64 (of_z w64 c.max-2.result) ≡ c.max-2.result = search rules in
    let fit7 : to_z w64 (of_z w64 c.min-low.result) ≡ c.min-low.result = search rules in
    let fit8 : to_z w64 (of_z w64 c.min-high.result) ≡ c.min-high.result = search rules in
    let step : to_z w64 (of_z w64 c.args.step) ≡ c.args.step = search rules in
    let less : to_z w64 (of_z w64 (to_z w64 (of_z w64 c.from-len.result) -ℤ pos 1)) ≡ pos len -ℤ pos 1 =
    (let h : to_z w64 (of_z w64 (to_z w64 (of_z w64 c.from-len.result) -ℤ pos 1)) ≡ to_z w64 (of_z w64 c.from-len.result) -ℤ pos 1 = to_z-of_z w64 (to_z w64 (of_z w64 c.from-len.result) -ℤ pos 1) (omega (arith, ints, lens)) in h ∙ ap (λ (z : ℤ). z -ℤ pos 1) lens) in
    let H : ℤ = clamped (pos 0 -ℤ pos 1) (pos len -ℤ pos 1) (normal len (unwrap_or c.args.first (pos len -ℤ pos 1))) in
    let L : ℤ = clamped (pos 0 -ℤ pos 1) (pos len -ℤ pos 1) (normal len (unwrap_or c.args.last (pos 0 -ℤ pos len -ℤ pos 1))) in
    let high : to_z w64 (of_z w64 c.min-high.result) ≡ H =
    fit8 ∙ (c.min-high.ensures.value ∙ ap₂ (λ (a b : ℤ). int_min a b) (fit3 ∙ (c.max.ensures.value ∙ ap (λ (a : ℤ). int_max a (pos 0 -ℤ pos 1)) (fit2 ∙ (c.normal.ensures ∙ ap (normal len) (fit1 ∙ (c.unwrap_or.ensures ∙ ap (unwrap_or c.args.first) less)))))) less) in
    let minus : to_z w64 (of_z w64 (pos 0 -ℤ to_z w64 (of_z w64 c.from-len.result))) ≡ pos 0 -ℤ pos len =
    to_z-of_z w64 (pos 0 -ℤ to_z w64 (of_z w64 c.from-len.result)) (omega (arith, ints, lens)) ∙ ap (λ (z : ℤ). pos 0 -ℤ z) lens in
    let least : to_z w64 (of_z w64 (to_z w64 (of_z w64 (pos 0 -ℤ to_z w64 (of_z w64 c.from-len.result))) -ℤ pos 1)) ≡ pos 0 -ℤ pos len -ℤ pos 1 =
    to_z-of_z w64 (to_z w64 (of_z w64 (pos 0 -ℤ to_z w64 (of_z w64 c.from-len.result))) -ℤ pos 1) (omega (arith, ints, minus)) ∙ ap (λ (z : ℤ). z -ℤ pos 1) minus in
    let low : to_z w64 (of_z w64 c.min-low.result) ≡ L =
    fit7 ∙ (c.min-low.ensures.value ∙ ap₂ (λ (a b : ℤ). int_min a b) (fit6 ∙ (c.max-2.ensures.value ∙ ap (λ (a : ℤ). int_max a (pos 0 -ℤ pos 1)) (fit5 ∙ (c.normal-2.ensures ∙ ap (normal len) (fit4 ∙ (c.unwrap_or-2.ensures ∙ ap (unwrap_or c.args.last) least)))))) less) in
    c.if-index-high.false
    ∙ elim c.if-low-index.branch [
      | then-low-index w ↦ second_false (int_lt L i) (int_le i H) (on_stride H c.args.step i) (sym (ap₂ (λ (a b : ℤ). int_lt a b) low here) ∙ w.if-low-index.true) (sym (ap₂ (λ (a b : ℤ). int_le a b) here high) ∙ (sym w.value-is ∙ c.if-index-high.false))
      | else-low-index w ↦ first_false (int_lt L i) (int_le i H) (on_stride H c.args.step i) (sym (ap₂ (λ (a b : ℤ). int_lt a b) low here) ∙ w.if-low-index.false)
    ]
