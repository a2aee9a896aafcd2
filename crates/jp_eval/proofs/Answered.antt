-- Answers at their positions.
use Rattle.std.proofs.Common.{arith, ◌≡◌, ◌<◌, ◌⊎◌, inl, inr, ℕ, zero, suc, List, [], ◌∷◌, ◌++◌, slice_set, Option, Some, None, sym, ◌∙◌, ap, refl, subst}
use Rattle.std.specs.Prelude.{slice_get}
use Rattle.jp_nodes.specs.declared.cursor.Cursor.{Cursor}
use Rattle.jp_eval.specs.Frames.{AreKept}
use Rattle.jp_eval.specs.declared.frame.Answer.{Answer}
use Rattle.jp_eval.specs.declared.frame.Run.{Run}

-- no answer is there
pub record HasNone (answers : List (Option Answer)) : Type 0 where
  pub none : (position : ℕ) (answer : Answer) → slice_get answers position ≡ Some (Some answer) → ⊥

pub none_at_all : HasNone []
none_at_all = record { none = go }
  where
    go : (position : ℕ) (answer : Answer) → slice_get [] position ≡ Some (Some answer) → ⊥
    go zero answer e = cc
    go (suc position) answer e = cc

pub none_in : (answers : List (Option Answer)) → answers ≡ [] → HasNone answers
none_in answers e = subst (λ (l : List (Option Answer)). HasNone l) (sym e) none_at_all

-- what stands before no answer
pub before_none : {A : Type 0} (l : List (Option A)) (k : ℕ) (x : A) → slice_get (l ++ None ∷ []) k ≡ Some (Some x) → slice_get l k ≡ Some (Some x)
before_none [] zero x e = absurd (cc)
before_none [] (suc zero) x e = absurd (cc)
before_none [] (suc (suc k)) x e = absurd (cc)
before_none (o ∷ l) zero x e = e
before_none (o ∷ l) (suc k) x e = before_none l k x e

pub kept_more : (run : Run) (found : List Cursor) (answers new : List (Option Answer)) → new ≡ answers ++ None ∷ [] → AreKept run found answers → AreKept run found new
kept_more run found answers new e h = λ position answer f. h position answer (before_none answers position answer (ap (λ (l : List (Option Answer)). slice_get l position) (sym e) ∙ f))

-- what stands in a list in which one item was set: there that item, and beside it what stood there
pub got_beside : {A B : Type 0} (l : List A) (i j : ℕ) (x y : A) → slice_get (slice_set l i x) j ≡ Some y → (i ≡ j → x ≡ y → B) → ((j < i) ⊎ (i < j) → slice_get l j ≡ Some y → B) → B
got_beside [] i zero x y h f g = absurd (cc)
got_beside [] i (suc j) x y h f g = absurd (cc)
got_beside (z ∷ l) zero zero x y h f g = f refl (cc)
got_beside (z ∷ l) zero (suc j) x y h f g = g (inr (omega arith)) h
got_beside (z ∷ l) (suc i) zero x y h f g = g (inl (omega arith)) h
got_beside (z ∷ l) (suc i) (suc j) x y h f g = got_beside l i j x y h (λ e k. f (ap suc e) k) (λ apart k. g (further apart) k)
  where
    further : (j < i) ⊎ (i < j) → (suc j < suc i) ⊎ (suc i < suc j)
    further (inl before) = inl (omega (arith, before))
    further (inr behind) = inr (omega (arith, behind))

pub got : {A B : Type 0} (l : List A) (i j : ℕ) (x y : A) → slice_get (slice_set l i x) j ≡ Some y → (i ≡ j → x ≡ y → B) → (slice_get l j ≡ Some y → B) → B
got l i j x y h f g = got_beside l i j x y h f (λ apart k. g k)

-- one answer was taken out
pub kept_without : (run : Run) (found : List Cursor) (answers : List (Option Answer)) (here : ℕ) (none : Option Answer) → none ≡ None → AreKept run found answers → AreKept run found (slice_set answers here none)
kept_without run found answers here none e h position answer is = got answers here position none (Some answer) is (λ there same. absurd (cc)) (λ other. h position answer other)
