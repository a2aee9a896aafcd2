use Rattle.std.proofs.Common.{◌≡◌, ◌+◌, ◌-◌, sym, ◌∙◌, ap, arith, get_or, [], inl, inr}
use Rattle.std.proofs.lemmas.List.{length-map}
use Rattle.std.proofs.lemmas.Bool.{cases_lt}
use Rattle.std.proofs.lemmas.Slice.Eq.{bytes_eq-Decides}
use Rattle.jp_tape.specs.Names.{points, all_points}
use Rattle.jp_model.proofs.Reader.Lexical.{clash}
use Rattle.jp_tape.proofs.Repeated.{neighbours_repeat, sorted_distinct, sorted_points, point_at}
use Rattle.jp_tape.proofs.builder.names.has_equal_neighbours.Goals as goal

pub returns-then-eq : goal.returns-then-eq
returns-then-eq c =
    let xs = c.args.bodies.now in
    let later = c.loop-later.later in
    let test = c.loop-later-test.true in
    let low = c.loop-later.auto.later in
    let n = length-map xs points in
    let a = point_at xs (later - 1) c.index-bodies-later.result c.index-bodies-later.is (omega (arith, test, low)) in
    let b = point_at xs later c.index-bodies-later-in-loop-later.result c.index-bodies-later-in-loop-later.is test in
    let same : points c.index-bodies-later.result ≡ points c.index-bodies-later-in-loop-later.result = (bytes_eq-Decides _ _).0 (sym c.eq.ensures ∙ c.if-eq.true) in
    let e : later - 1 + 1 ≡ later = omega (arith, low) in
    sym (neighbours_repeat (all_points xs) (later - 1) (omega (arith, n, test, e)) (a ∙ (same ∙ (sym b ∙ ap (λ m. get_or (all_points xs) m []) (sym e)))))

pub loop-later-preserved : goal.loop-later-preserved
loop-later-preserved c k l h =
    let xs = c.args.bodies.now in
    let later = c.loop-later.later in
    let test = c.loop-later-test.true in
    let low = c.loop-later.auto.later in
    elim (cases_lt (k + 1) later) [
      | inl lt ↦ c.loop-later.invariant k lt h
      | inr le ↦ (
          let i : k ≡ later - 1 = omega (arith, le, l) in
          let j : k + 1 ≡ later = omega (arith, le, l) in
          let a = point_at xs (later - 1) c.index-bodies-later.result c.index-bodies-later.is (omega (arith, test, low)) in
          let b = point_at xs later c.index-bodies-later-in-loop-later.result c.index-bodies-later-in-loop-later.is test in
          let same : points c.index-bodies-later.result ≡ points c.index-bodies-later-in-loop-later.result =
          sym a ∙ (ap (λ m. get_or (all_points xs) m []) (sym i) ∙ (h ∙ (ap (λ m. get_or (all_points xs) m []) j ∙ b))) in
          clash _ (c.eq.ensures ∙ (bytes_eq-Decides _ _).1 same) c.if-eq.false
          )
    ]

pub returns : goal.returns
returns c =
    let xs = c.args.bodies.now in
    let test = c.loop-later-test.false in
    let n = length-map xs points in
    sym (sorted_distinct (all_points xs) (sorted_points xs c.requires) (λ i l h. c.loop-later.invariant i (omega (arith, test, n, l)) h))
