-- Readers, step by step.
use Rattle.std.proofs.Common.{◌≡◌, ℕ, zero, suc, List, [], ◌∷◌, ◌++◌, Bool, true, false, cond, Option, Some, None, refl, subst, ◌⊎◌, inl, inr, ◌==◌}
use Rattle.std.proofs.lemmas.Bool.{eqb-true}
use Rattle.jp_model.specs.Characters.{is_white}
use Rattle.jp_model.specs.Query.Spelling.{Run, run_ends, run_goes_on, Blanks}
use Rattle.jp_query.specs.Reading.Scalars.{Read, Item, is_item, ◌>>=◌, after, after_all, after_blanks, run, skip_blanks, choose, first_and_run, many, many_after}

-- what a step that went well did
pub bind_some : {A B : Type 0} (o : Option A) (f : A → Option B) (b : B) → (o >>= f) ≡ Some b → (a : A) × (o ≡ Some a) × (f a ≡ Some b)
bind_some None f b h = absurd (cc)
bind_some (Some a) f b h = (a, refl, h)

-- a choice took one way or the other
pub chosen : {A B : Type 0} (o : Option A) (here : A → B) (other b : B) → choose o here other ≡ b → ((a : A) × (o ≡ Some a) × (here a ≡ b)) ⊎ ((o ≡ None) × (other ≡ b))
chosen None here other b h = inr (refl, h)
chosen (Some a) here other b h = inl (a, refl, h)

-- a test went one way or the other
pub decided : {A : Type 0} (t : Bool) (a b c : A) → cond t a b ≡ c → ((t ≡ true) × (a ≡ c)) ⊎ ((t ≡ false) × (b ≡ c))
decided true a b c h = inl (refl, h)
decided false a b c h = inr (refl, h)

pub cond_some : {A : Type 0} (t : Bool) (a b : A) → cond t (Some a) None ≡ Some b → (t ≡ true) × (a ≡ b)
cond_some true a b h = (refl, cc)
cond_some false a b h = absurd (cc)

pub some_same : {A : Type 0} (a b : A) → Some a ≡ Some b → a ≡ b
some_same a b h = cc

-- the same of an equal answer
pub as_read : {A : Type 0} (P : List ℕ → A → Type 0) (p r : A × List ℕ) → Some p ≡ Some r → P p.1 p.0 → P r.1 r.0
as_read P p r e h = subst (λ q. P q.1 q.0) (some_same p r e) h

pub after_is : (c : ℕ) (x y : List ℕ) → after c x ≡ Some y → x ≡ c ∷ y
after_is c [] y h = absurd (cc)
after_is c (d ∷ x) y h = let p = cond_some (d == c) x y h in let e : d ≡ c = eqb-true d c p.0 in let f : x ≡ y = p.1 in cc

pub after_all_is : (word x y : List ℕ) → after_all word x ≡ Some y → x ≡ word ++ y
after_all_is [] x y h = some_same x y h
after_all_is (c ∷ word) x y h =
    let b = bind_some (after c x) (after_all word) y h in
    let first : x ≡ c ∷ b.0 = after_is c x b.0 b.1 in
    let others : b.0 ≡ word ++ y = after_all_is word b.0 y b.2 in
    subst (λ z. x ≡ c ∷ z) others first

-- the run of a class stands in front
pub run_stands : (m : ℕ → Bool) (x : List ℕ) → Run m x (run m x).1 (run m x).0
run_stands m [] = run_ends
run_stands m (c ∷ x) = step (m c) refl (run_stands m x)
  where
    step : (t : Bool) → m c ≡ t → Run m x (run m x).1 (run m x).0 → Run m (c ∷ x) (cond {A = List ℕ × List ℕ} t (c ∷ (run m x).0, (run m x).1) ([], c ∷ x)).1 (cond {A = List ℕ × List ℕ} t (c ∷ (run m x).0, (run m x).1) ([], c ∷ x)).0
    step true e others = run_goes_on e others
    step false e others = run_ends

pub named_stands : (first member : ℕ → Bool) (P : List ℕ → List ℕ → List ℕ → Type 0) → ((c : ℕ) (x y s : List ℕ) → first c ≡ true → Run member x y s → P (c ∷ x) y (c ∷ s)) → (x : List ℕ) (r : List ℕ × List ℕ) → first_and_run first member x ≡ Some r → P x r.1 r.0
named_stands first member P make [] r h = absurd (cc)
named_stands first member P make (c ∷ x) r h =
    let p = cond_some (first c) (c ∷ (run member x).0, (run member x).1) r h in
    subst (λ q. P (c ∷ x) q.1 q.0) p.1 (make c x (run member x).1 (run member x).0 p.0 (run_stands member x))

pub skipped : (x : List ℕ) → Blanks x (skip_blanks x)
skipped x = ((run is_white x).0, run_stands is_white x)

-- blanks and a scalar
pub blank_then : (c : ℕ) (x y : List ℕ) → after_blanks c x ≡ Some y → Blanks x (c ∷ y)
blank_then c x y h = subst (λ z. Blanks x z) (after_is c (skip_blanks x) y h) (skipped x)

pub no_blanks : (x : List ℕ) → Blanks x x
no_blanks x = ([], run_ends)

-- items one after the other, by what one of them spells
pub many_sound : {A : Type 0} (item : Item A) (P : List ℕ → List ℕ → List A → Type 0) → ((x : List ℕ) → P x x []) → ((x y z : List ℕ) (a : A) (others : List A) → item x ≡ Some (Some (a, y)) → P y z others → P x z (a ∷ others))
    → (n : ℕ) (x : List ℕ) (r : List A × List ℕ) → many item n x ≡ Some r → P x r.1 r.0
unfolding many
many_sound item P ends goes_on zero x r h = subst (λ q. P x q.1 q.0) (some_same _ r h) (ends x)
many_sound {A} item P ends goes_on (suc n) x r h = step (item x) refl h (many_sound item P ends goes_on n)
  where
    step : (o : Option (Option (A × List ℕ))) → item x ≡ o → many_after o (many item n) x ≡ Some r → ((y : List ℕ) (q : List A × List ℕ) → many item n y ≡ Some q → P y q.1 q.0) → P x r.1 r.0
    step None e h again = absurd (cc)
    step (Some None) e h again = subst (λ q. P x q.1 q.0) (some_same _ r h) (ends x)
    step (Some (Some p)) e h again =
        let b = bind_some (many item n p.1) (λ rs. Some (p.0 ∷ rs.0, rs.1)) r h in
        subst (λ q. P x q.1 q.0) (some_same _ r b.2) (goes_on x p.1 b.0.1 p.0 b.0.0 e (again p.1 b.0 b.1))

pub is_item_some : {A : Type 0} (o : Read A) (r : A × List ℕ) → is_item o ≡ Some (Some r) → o ≡ Some r
is_item_some None r h = absurd (cc)
is_item_some (Some p) r h = cc
