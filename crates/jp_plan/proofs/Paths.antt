-- The paths of a list, one by one.
use Rattle.std.proofs.Common.{◌≡◌, ℕ, ◌+◌, ◌<◌, ◌≤◌, zero, suc, List, [], ◌∷◌, length, drop, get_or, Bool, true, false, not, ◌&&◌, ◌||◌, ◌-◌, Option, Some, None, slice_get, if◌then◌else◌, nat_lt, refl, sym, ap, ◌∙◌, arith}
use Rattle.std.specs.List.{list_any}
use Rattle.jp_model.proofs.Steps.{steps_same}
use Rattle.jp_model.specs.Steps.{Step, steps_equal, is_prefix}
use Rattle.jp_model.specs.Plans.{longer, seek_of}
use Rattle.jp_plan.specs.Behind.{are_of_steps}
use Rattle.std.proofs.lemmas.List.{at_drop_more}
use Rattle.std.proofs.lemmas.Option.{get_or_from_slice_get}
use Rattle.jp_syntax.specs.StepEquality.{steps_equal_equiv}
use Rattle.jp_plan.specs.Paths.{are_as_many, is_better, is_indexed}

pub there_is : {A : Type 0} (xs : List A) (k : ℕ) → k < length xs → (x : A) × (slice_get xs k ≡ Some x)
there_is [] k l = absurd (omega arith)
there_is (x ∷ xs) zero l = (x, refl)
there_is (x ∷ xs) (suc k) l = there_is xs k (omega arith)

-- the longer of two
pub longer_is : (p : List Step) (o : Option (List Step)) → longer p o ≡ (if are_as_many p o then Some p else o)
longer_is p None = refl
longer_is p (Some q) = pick (nat_lt (length p) (length q))
  where
    pick : (b : Bool) → (if b then Some q else Some p) ≡ (if not b then Some p else Some q)
    pick true = refl
    pick false = refl

-- steps that are spelled are those of the path
pub spelled_is : (p : List Step) (o : Option (List Step)) → are_of_steps p o ≡ true → Some p ≡ o
spelled_is p None h = absurd (cc)
spelled_is p (Some q) h = ap Some (steps_same p q h)

-- a path that does not have the steps is passed over
pub passed_over : (p : List Step) (paths : List (List Step)) (o : Option (List Step)) → are_of_steps p o ≡ false → is_indexed (p ∷ paths) o ≡ is_indexed paths o
passed_over p paths None h = refl
passed_over p paths (Some steps) h = rw h refl

both : {A : Type 0} (b c : Bool) (x y : A) → (if b then (if c then x else y) else y) ≡ (if b && c then x else y)
both true c x y = refl
both false c x y = refl

-- one path more is looked at, from the last on
pub seek_more : (paths : List (List Step)) (n : ℕ) (steps : List Step) (best : Option (List Step)) (q : List Step) (r b : Bool) → 0 < n → n ≤ length paths → slice_get paths (n - 1) ≡ Some steps
    → best ≡ seek_of (drop n paths) q → r ≡ is_better steps q best → r ≡ b → seek_of (drop (n - 1) paths) q ≡ (if b then Some steps else best)
seek_more paths n steps best q r b z l e h t u =
    let next : (n - 1) + 1 ≡ n = omega arith in
    let here : get_or paths (n - 1) steps ≡ steps = get_or_from_slice_get paths (n - 1) steps steps e in
    let rest : seek_of (drop ((n - 1) + 1) paths) q ≡ best = ap (λ k. seek_of (drop k paths) q) next ∙ sym h in
    at_drop_more (λ ps. seek_of ps q) paths (n - 1) steps (omega arith)
    ∙ (ap (λ r. if is_prefix (get_or paths (n - 1) steps) q then longer (get_or paths (n - 1) steps) r else r) rest
    ∙ (ap (λ t. if is_prefix t q then longer t best else best) here
    ∙ (ap (λ r. if is_prefix steps q then r else best) (longer_is steps best)
    ∙ (both (is_prefix steps q) (are_as_many steps best) (Some steps) best
    ∙ ap (λ b. if b then Some steps else best) (sym t ∙ u)))))

-- a path that is not the one is passed over
pub path_passed : (paths : List (List Step)) (k : ℕ) (p : List Step) (o : Option (List Step)) (whole : Bool) → k < length paths → slice_get paths k ≡ Some p → are_of_steps p o ≡ false
    → is_indexed (drop k paths) o ≡ whole → is_indexed (drop (k + 1) paths) o ≡ whole
path_passed paths k p o whole l e h i =
    let here : get_or paths k p ≡ p = get_or_from_slice_get paths k p p e in
    sym (passed_over p (drop (k + 1) paths) o h)
    ∙ (ap (λ r. is_indexed (r ∷ drop (k + 1) paths) o) (sym here)
    ∙ (sym (at_drop_more (λ ps. is_indexed ps o) paths k p l) ∙ i))

or_true : (b : Bool) → (b || true) ≡ true
or_true true = refl
or_true false = refl

-- a path that is there has its index
pub indexed_at : (paths : List (List Step)) (k : ℕ) (steps : List Step) → slice_get paths k ≡ Some steps → list_any (λ p. steps_equal p steps) paths ≡ true
indexed_at [] k steps h = absurd (cc)
indexed_at (p ∷ paths) zero steps h = let e : p ≡ steps = cc in rw e (rw (steps_equal_equiv.refl steps) refl)
indexed_at (p ∷ paths) (suc k) steps h = rw (indexed_at paths k steps h) (or_true (steps_equal p steps))
