-- Texts of one length, one after another.
use Rattle.std.proofs.Common.{◌≡◌, ℕ, zero, suc, ◌+◌, ◌-◌, ◌*◌, ◌<◌, ◌≤◌, ◌↔◌, inl, inr, List, length, drop, arith, sym, ◌∙◌, ap, subst, length-append, length-drop, Some}
use Rattle.std.proofs.Math.Nat.{add-mul}
use Rattle.jp_model.specs.Pattern.Language.{Repeats, RepeatsWithin}
use Rattle.jp_iregexp.specs.declared.positions.PositionSet.{PositionSet}
use Rattle.jp_iregexp.specs.Evens.{HaveLength, IsRun, AreRuns}
use Rattle.jp_iregexp.specs.Positions.{Has, Reach, AreEnds}
use Rattle.jp_iregexp.proofs.Bits.{below_or_not}
use Rattle.jp_iregexp.proofs.Reaching.{AreSame, nothing_reach, joined, between}

-- ---- lengths

none_times : (n : ℕ) → 0 * n ≡ 0
none_times n = omega arith

one_times : (n : ℕ) → 1 * n ≡ n
one_times n = omega arith

one_more_times : (c n : ℕ) → suc c * n ≡ n + c * n
one_more_times c n = (let e : suc c ≡ 1 + c = omega arith in ap (λ k. k * n) e ∙ add-mul 1 c n ∙ ap (λ k. k + c * n) (one_times n))

pub repeats_length : (Member : List ℕ → Type 0) (n : ℕ) → HaveLength Member n → (c : ℕ) → HaveLength (Repeats Member c) (c * n)
repeats_length Member n each zero x r = ap length r ∙ sym (none_times n)
repeats_length Member n each (suc c) x r = ap length r.is ∙ length-append r.front r.rest ∙ (λ i. each r.front r.first i + repeats_length Member n each c r.rest r.second i) ∙ sym (one_more_times c n)

-- exactly `least` turns
pub exact_length : (Member : List ℕ → Type 0) (n least : ℕ) → HaveLength Member n → HaveLength (RepeatsWithin Member least (Some (least + 0))) (n * least)
exact_length Member n least each x w =
    let few = w.few in
    let enough = w.enough in
    let count : w.count ≡ least = omega (arith, few, enough) in
    let turn : least * n ≡ n * least = omega arith in
    repeats_length Member n each w.count x w.repeats ∙ ap (λ c. c * n) count ∙ turn

-- ---- runs

pub runs_start : (once set : PositionSet) (step : ℕ) → AreSame set once → AreRuns once step 1 set
runs_start once set step e q = (
  (λ h j l.
      let none : j ≡ 0 = omega arith in
      let far : j * step ≡ 0 = ap (λ k. k * step) none ∙ none_times step in
      let here : q ≡ q - j * step = omega (arith, far) in
      (omega (arith, far), subst (Has once) here ((e q).0 h))),
  (λ r.
      let far = none_times step in
      let here : q - 0 * step ≡ q = omega (arith, far) in
      (e q).1 (subst (Has once) here ((r 0 (omega arith)).1))),
)

-- a run of `a` steps and `b` steps more, which overlap it
pub runs_more : (once set more : PositionSet) (step a b : ℕ) → 0 < a → b ≤ a → AreRuns once step a set → ((q : ℕ) → Has more q ↔ (b * step ≤ q × Has set (q - b * step) × Has set q)) → AreRuns once step (a + b) more
runs_more once set more step a b some l r m q = (
  (λ h j few.
      let w = (m q).0 h in
      elim (below_or_not j a) [
        | inl k ↦ (r q).0 w.2 j k
        | inr k ↦
            (let rest : j ≡ b + (j - b) = omega (arith, l, k) in
            let far : j * step ≡ b * step + (j - b) * step = ap (λ n. n * step) rest ∙ add-mul b (j - b) step in
            let s = (r (q - b * step)).0 w.1 (j - b) (omega (arith, few, l, k)) in
            let low = w.0 in
            let high = s.0 in
            let here : q - b * step - (j - b) * step ≡ q - j * step = omega (arith, far) in
            (omega (arith, far, low, high), subst (Has once) here s.1))
      ]),
  (λ run.
      let low = (run b (omega (arith, some, l))).0 in
      (m q).1 (
        low,
        (r (q - b * step)).1 (λ j few.
            let s = run (b + j) (omega (arith, few)) in
            let far = add-mul b j step in
            let high = s.0 in
            let here : q - (b + j) * step ≡ q - b * step - j * step = omega (arith, far) in
            (omega (arith, far, high), subst (Has once) here s.1)),
        (r q).1 (λ j few. run j (omega (arith, few))),
      )),
)

-- ---- the ends

reach_length : (Member : List ℕ → Type 0) (n : ℕ) → HaveLength Member n → (text : List ℕ) (p q : ℕ) → Reach Member text p q → q ≡ p + n
reach_length Member n each text p q r =
    let size = each r.inside r.member in
    let o = r.ordered in
    let w = r.within in
    let whole : length text - p ≡ length r.inside + (length text - q) = sym (length-drop p text) ∙ ap length r.is ∙ length-append r.inside (drop q text) ∙ ap (λ k. length r.inside + k) (length-drop q text) in
    omega (arith, size, o, w, whole)

-- the starts, from which each text ends before the last position
pub record AreFrom (low high : ℕ) (from : PositionSet) : Type 0 where
  pub sound : (p : ℕ) → Has from p → low ≤ p × p < high
  pub each : (p : ℕ) → low ≤ p → p < high → Has from p

module _ (Member : List ℕ → Type 0) (step : ℕ) (each : HaveLength Member step) (some : 0 < step) (text : List ℕ) (low high : ℕ) (from once : PositionSet) (all : AreFrom low high from) (ends : AreEnds Member text from once) where
  -- a run of `k` steps is `k` members
  led : (k q : ℕ) → q ≤ length text → IsRun once step k q → k * step ≤ q × Reach (Repeats Member k) text (q - k * step) q
  led zero q within run = (let far = none_times step in let here : q ≡ q - 0 * step = omega (arith, far) in (omega (arith, far), subst (λ p. Reach (Repeats Member 0) text p q) here (nothing_reach text q within)))
  led (suc k) q within run =
      let rest = led k q within (λ j l. run j (omega arith)) in
      let s = run k (omega arith) in
      let first = ends.sound (q - k * step) s.1 in
      let size = reach_length Member step each text first.start (q - k * step) first.reach in
      let far = one_more_times k step in
      let fits = rest.0 in
      let here : first.start ≡ q - suc k * step = omega (arith, size, far, fits) in
      (omega (arith, size, far, fits), subst (λ p. Reach (Repeats Member (suc k)) text p q) here (joined text first.start (q - k * step) q first.reach rest.1))

  -- `k` members are a run of `k` steps
  run_of : (k p q : ℕ) → low ≤ p → q ≤ high → Reach (Repeats Member k) text p q → IsRun once step k q
  run_of zero p q l h r j few = absurd (omega arith)
  run_of (suc k) p q l h r j few =
      let b = between text p q r in
      let first = reach_length Member step each text p b.middle b.first in
      let rest = reach_length (Repeats Member k) (k * step) (repeats_length Member step each k) text b.middle q b.second in
      elim (below_or_not j k) [
        | inl m ↦ run_of k b.middle q (omega (arith, first, l)) h b.second j m
        | inr m ↦
            (let last : j ≡ k = omega (arith, few, m) in
            let far = ap (λ n. n * step) last in
            let here : b.middle ≡ q - j * step = omega (arith, rest, far) in
            (omega (arith, rest, far), subst (Has once) here (ends.complete p b.middle (all.each p l (omega (arith, first, rest, some, h))) b.first)))
      ]

  pub even_ends : (starts runs out : PositionSet) (count distance : ℕ) → distance ≡ count * step → 0 < count → ((p : ℕ) → Has starts p → low ≤ p) → ((p : ℕ) → Has starts p → p + distance ≤ length text → p + distance ≤ high) → AreRuns once step count runs
      → ((q : ℕ) → Has out q ↔ (distance ≤ q × Has starts (q - distance) × Has runs q)) → AreEnds (Repeats Member count) text starts out
  even_ends starts runs out count distance far many lowest highest are moved = record {
    over = record { within = λ q h. inside q ((are q).0 ((moved q).0 h).2) };
    sound = λ q h.
        (let w = (moved q).0 h in
        let run = (are q).0 w.2 in
        record { start = q - distance; has = w.1; reach = subst (λ n. Reach (Repeats Member count) text (q - n) q) (sym far) (led count q (inside q run) run).1 });
    complete = λ p q h r.
        (let size = reach_length (Repeats Member count) (count * step) (repeats_length Member step each count) text p q r in
        let within = r.within in
        let here : p ≡ q - distance = omega (arith, size, far) in
        (moved q).1 (omega (arith, size, far), subst (Has starts) here h, (are q).1 (run_of count p q (lowest p h) (let t = highest p h (omega (arith, size, far, within)) in omega (arith, t, size, far)) r)));
  }
    where
      inside : (q : ℕ) → IsRun once step count q → q ≤ length text
      inside q run = (let none = none_times step in let here : q - 0 * step ≡ q = omega (arith, none) in ends.over.within q (subst (Has once) here (run 0 many).1))

-- `count` texts are longer than the whole
pub even_none : (Member : List ℕ → Type 0) (step : ℕ) → HaveLength Member step → (text : List ℕ) (starts out : PositionSet) (count distance : ℕ) → distance ≡ count * step → length text < distance → ((q : ℕ) → ¬ (Has out q)) → AreEnds (Repeats Member count) text starts out
even_none Member step each text starts out count distance far long none = record {
  over = record { within = λ q h. absurd (none q h) };
  sound = λ q h. absurd (none q h);
  complete = λ p q h r. absurd (let size = reach_length (Repeats Member count) (count * step) (repeats_length Member step each count) text p q r in let within = r.within in omega (arith, size, within, far, long));
}
