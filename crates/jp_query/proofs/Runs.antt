-- Runs of a class of scalars, read one by one.
use Rattle.std.proofs.Common.{◌≡◌, ℕ, ◌+◌, Some, length-append, ◌≤◌, List, [], ◌∷◌, ◌++◌, length, take, drop, Bool, true, false, cond, refl, sym, ap, ◌∙◌, arith}
use Rattle.std.proofs.Math.Seq.{take-append_seam, drop-append_seam}
use Rattle.jp_query.specs.Reading.Scalars.{run, begins, first_and_run}

-- the run from a position on, after what stands in front of it
abbrev pub run_from : (ℕ → Bool) → List ℕ → ℕ → List ℕ × List ℕ
run_from m x i = (take i x ++ (run m (drop i x)).0, (run m (drop i x)).1)

-- a run stands in front of what is left
pub run_joins : (m : ℕ → Bool) (x : List ℕ) → (run m x).0 ++ (run m x).1 ≡ x
run_joins m [] = refl
run_joins m (c ∷ x) = step (m c) (run_joins m x)
  where
    step : (t : Bool) → (run m x).0 ++ (run m x).1 ≡ x → (cond {A = List ℕ × List ℕ} t (c ∷ (run m x).0, (run m x).1) ([], c ∷ x)).0 ++ (cond {A = List ℕ × List ℕ} t (c ∷ (run m x).0, (run m x).1) ([], c ∷ x)).1 ≡ c ∷ x
    step true e = ap (λ (all : List ℕ). c ∷ all) e
    step false e = refl

-- what stands in front, and what stands after it
pub cut_at : (s y x : List ℕ) → s ++ y ≡ x → (length s ≤ length x) × (take (length s) x ≡ s) × (drop (length s) x ≡ y)
cut_at s y x h =
    let n : length x ≡ length s + length y = ap (λ (all : List ℕ). length all) (sym h) ∙ length-append s y in
    (omega arith, ap (λ (all : List ℕ). take (length s) all) (sym h) ∙ take-append_seam s y, ap (λ (all : List ℕ). drop (length s) all) (sym h) ∙ drop-append_seam s y)

-- a scalar of one class and a run of another
pub named_cut : (first others : ℕ → Bool) (x : List ℕ) → begins first x ≡ true
    → (length (run others (drop 1 x)).0 + 1 ≤ length x) × (first_and_run first others x ≡ Some (take (length (run others (drop 1 x)).0 + 1) x, drop (length (run others (drop 1 x)).0 + 1) x))
named_cut first others [] h = absurd (cc)
named_cut first others (c ∷ x) h =
    let n : length (run others x).0 + 1 ≡ length (c ∷ (run others x).0) = omega arith in
    let p = cut_at (c ∷ (run others x).0) (run others x).1 (c ∷ x) (ap (λ (all : List ℕ). c ∷ all) (run_joins others x)) in
    let e : first_and_run first others (c ∷ x) ≡ Some (c ∷ (run others x).0, (run others x).1) = rw h refl in
    (rw n p.0, rw n (e ∙ ap (λ (r : List ℕ × List ℕ). Some r) (ap (λ (s : List ℕ). (s, (run others x).1)) (sym p.1) ∙ ap (λ (y : List ℕ). (take (length (c ∷ (run others x).0)) (c ∷ x), y)) (sym p.2))))
