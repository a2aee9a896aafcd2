-- What may stand after a rule: classes of the next scalar after blanks.
use Rattle.std.proofs.Common.{◌≡◌, ◌∙◌, ℕ, List, [], ◌∷◌, Bool, true, false, not, cond, Some, None, refl, sym, ap, subst, ⊎_elim, ◌||◌, ◌==◌}
use Rattle.std.proofs.lemmas.Bool.{eqb-true, or_cases, not_from_false, false_from_ne_true, cond-true, cond-false}
use Rattle.jp_model.specs.Characters.{is_white}
use Rattle.jp_model.specs.Query.Spelling.{Run, run_ends, run_goes_on, Blanks}
use Rattle.jp_query.specs.Reading.Scalars.{Read, run, skip_blanks, after, first_and_run, begins}

-- the scalar in front, or 0
abbrev pub head : List ℕ → ℕ
head [] = 0
head (c ∷ x) = c

-- the scalar after blanks
abbrev pub next : List ℕ → ℕ
next x = head (skip_blanks x)

-- what may follow selectors, a logical-expr, a logical-and-expr, a basic-expr, a singular query or a literal, a segment
abbrev pub closes : ℕ → Bool
closes c = c == 93

abbrev pub ends_arguments : ℕ → Bool
ends_arguments c = c == 41

abbrev pub ends_logical : ℕ → Bool
ends_logical c = c == 0 || c == 93 || c == 41 || c == 44

abbrev pub ends_and : ℕ → Bool
ends_and c = ends_logical c || c == 124

abbrev pub ends_basic : ℕ → Bool
ends_basic c = ends_and c || c == 38

abbrev pub ends_path : ℕ → Bool
ends_path c = ends_basic c || c == 61 || c == 33 || c == 60 || c == 62

abbrev pub ends_segment : ℕ → Bool
ends_segment c = ends_path c || c == 46 || c == 91

-- a scalar of a class is one of these
one_of : (c n : ℕ) (b : Bool) (P : ℕ → Type 0) → (b || (c == n)) ≡ true → (b ≡ true → P c) → P n → P c
one_of c n b P h f g = ⊎_elim f (λ e. subst P (sym (eqb-true c n e)) g) (or_cases b (c == n) h)

is_one : (c n : ℕ) (P : ℕ → Type 0) → (c == n) ≡ true → P n → P c
is_one c n P e g = subst P (sym (eqb-true c n e)) g

pub logical_class : (P : ℕ → Type 0) → P 0 → P 93 → P 41 → P 44 → (c : ℕ) → ends_logical c ≡ true → P c
logical_class P p0 p93 p41 p44 c h = one_of c 44 _ P h (λ h. one_of c 41 _ P h (λ h. one_of c 93 _ P h (λ h. is_one c 0 P h p0) p93) p41) p44

pub and_class : (P : ℕ → Type 0) → P 0 → P 93 → P 41 → P 44 → P 124 → (c : ℕ) → ends_and c ≡ true → P c
and_class P p0 p93 p41 p44 p124 c h = one_of c 124 _ P h (λ h. logical_class P p0 p93 p41 p44 c h) p124

pub basic_class : (P : ℕ → Type 0) → P 0 → P 93 → P 41 → P 44 → P 124 → P 38 → (c : ℕ) → ends_basic c ≡ true → P c
basic_class P p0 p93 p41 p44 p124 p38 c h = one_of c 38 _ P h (λ h. and_class P p0 p93 p41 p44 p124 c h) p38

pub path_class : (P : ℕ → Type 0) → P 0 → P 93 → P 41 → P 44 → P 124 → P 38 → P 61 → P 33 → P 60 → P 62 → (c : ℕ) → ends_path c ≡ true → P c
path_class P p0 p93 p41 p44 p124 p38 p61 p33 p60 p62 c h = one_of c 62 _ P h (λ h. one_of c 60 _ P h (λ h. one_of c 33 _ P h (λ h. one_of c 61 _ P h (λ h. basic_class P p0 p93 p41 p44 p124 p38 c h) p61) p33) p60) p62

segment_class : (P : ℕ → Type 0) → P 0 → P 93 → P 41 → P 44 → P 124 → P 38 → P 61 → P 33 → P 60 → P 62 → P 46 → P 91 → (c : ℕ) → ends_segment c ≡ true → P c
segment_class P p0 p93 p41 p44 p124 p38 p61 p33 p60 p62 p46 p91 c h = one_of c 91 _ P h (λ h. one_of c 46 _ P h (λ h. path_class P p0 p93 p41 p44 p124 p38 p61 p33 p60 p62 c h) p46) p91

pub white_class : (P : ℕ → Type 0) → P 32 → P 9 → P 10 → P 13 → (c : ℕ) → is_white c ≡ true → P c
white_class P p32 p9 p10 p13 c h = one_of c 13 _ P h (λ h. one_of c 10 _ P h (λ h. one_of c 9 _ P h (λ h. is_one c 32 P h p32) p9) p10) p13

-- a class in which no white space is
pub not_white : (p : ℕ → Bool) → p 32 ≡ false → p 9 ≡ false → p 10 ≡ false → p 13 ≡ false → (c : ℕ) → p c ≡ true → is_white c ≡ false
not_white p a b d e c h = false_from_ne_true (is_white c) (λ w. let k : p c ≡ false = white_class (λ n. p n ≡ false) a b d e c w in absurd (cc))

-- ---- after blanks

skip_one : (c : ℕ) (x : List ℕ) → is_white c ≡ true → skip_blanks (c ∷ x) ≡ skip_blanks x
skip_one c x e = ap (λ (p : List ℕ × List ℕ). p.1) (cond-true {A = List ℕ × List ℕ} (is_white c) (c ∷ (run is_white x).0, (run is_white x).1) ([], c ∷ x) e)

skip_run : {x y s : List ℕ} → Run is_white x y s → skip_blanks x ≡ skip_blanks y
skip_run run_ends = refl
skip_run (run_goes_on {c} {x} e more) = skip_one c x e ∙ skip_run more

pub blanks_skip : {x y : List ℕ} → Blanks x y → skip_blanks x ≡ skip_blanks y
blanks_skip b = skip_run b.1

-- what begins with no blank
pub skip_stays : (x : List ℕ) → is_white (head x) ≡ false → skip_blanks x ≡ x
skip_stays [] e = refl
skip_stays (c ∷ x) e = ap (λ (p : List ℕ × List ℕ). p.1) (cond-false {A = List ℕ × List ℕ} (is_white c) (c ∷ (run is_white x).0, (run is_white x).1) ([], c ∷ x) e)

pub next_is : (p : ℕ → Bool) {x y : List ℕ} → Blanks x y → p (next y) ≡ true → p (next x) ≡ true
next_is p b h = subst (λ z. p (head z) ≡ true) (sym (blanks_skip b)) h

-- the scalar in front is a blank, or the one after blanks
pub in_front : (P : ℕ → Type 0) (x : List ℕ) → (is_white (head x) ≡ true → P (head x)) → P (next x) → P (head x)
in_front P [] f h = h
in_front P (c ∷ x) f h = step (is_white c) refl
  where
    step : (t : Bool) → is_white c ≡ t → P c
    step true e = f e
    step false e = subst (λ z. P (head z)) (skip_stays (c ∷ x) e) h

-- what stands in front after a literal, and after a segment
pub path_head : (P : ℕ → Type 0) → P 0 → P 93 → P 41 → P 44 → P 124 → P 38 → P 61 → P 33 → P 60 → P 62 → P 32 → P 9 → P 10 → P 13 → (x : List ℕ) → ends_path (next x) ≡ true → P (head x)
path_head P p0 p93 p41 p44 p124 p38 p61 p33 p60 p62 p32 p9 p10 p13 x h = in_front P x (white_class P p32 p9 p10 p13 (head x)) (path_class P p0 p93 p41 p44 p124 p38 p61 p33 p60 p62 (next x) h)

pub segment_head : (P : ℕ → Type 0) → P 0 → P 93 → P 41 → P 44 → P 124 → P 38 → P 61 → P 33 → P 60 → P 62 → P 46 → P 91 → P 32 → P 9 → P 10 → P 13 → (x : List ℕ) → ends_segment (next x) ≡ true → P (head x)
segment_head P p0 p93 p41 p44 p124 p38 p61 p33 p60 p62 p46 p91 p32 p9 p10 p13 x h = in_front P x (white_class P p32 p9 p10 p13 (head x)) (segment_class P p0 p93 p41 p44 p124 p38 p61 p33 p60 p62 p46 p91 (next x) h)

-- ---- scalars that do not stand there

-- a class that has what stands in front, and not this scalar
pub apart : (p : ℕ → Bool) (c d : ℕ) → p d ≡ true → p c ≡ false → (d == c) ≡ false
apart p c d h g = false_from_ne_true (d == c) (λ e. let f : d ≡ c = eqb-true d c e in let k : p d ≡ p c = ap p f in absurd (cc))

pub after_none : (c : ℕ) (x : List ℕ) → (head x == c) ≡ false → after c x ≡ None
after_none c [] h = refl
after_none c (d ∷ x) h = cond-false (d == c) (Some x) None h

pub not_there : (p : ℕ → Bool) (c : ℕ) (x : List ℕ) → p (head x) ≡ true → p c ≡ false → after c x ≡ None
not_there p c x h g = after_none c x (apart p c (head x) h g)

-- a run of a class ends there
abbrev pub stops : (ℕ → Bool) → List ℕ → Bool
stops m [] = true
stops m (c ∷ x) = not (m c)

pub stops_at : (m : ℕ → Bool) (x : List ℕ) → m (head x) ≡ false → stops m x ≡ true
stops_at m [] h = refl
stops_at m (c ∷ x) h = not_from_false (m c) h

run_stops : (m : ℕ → Bool) (x : List ℕ) → stops m x ≡ true → run m x ≡ ([], x)
run_stops m [] h = refl
run_stops m (c ∷ x) h = step (m c) refl h
  where
    step : (t : Bool) → m c ≡ t → not t ≡ true → cond {A = List ℕ × List ℕ} t (c ∷ (run m x).0, (run m x).1) ([], c ∷ x) ≡ ([], c ∷ x)
    step true e g = absurd (cc)
    step false e g = refl

pub run_reads : {m : ℕ → Bool} {x y s : List ℕ} → Run m x y s → stops m y ≡ true → run m x ≡ (s, y)
run_reads {m} {x} run_ends h = run_stops m x h
run_reads (run_goes_on {c} {x} {y} {s} e more) h = rw e (ap (λ (p : List ℕ × List ℕ). (c ∷ p.0, p.1)) (run_reads more h))

pub named_reads : (first member : ℕ → Bool) (c : ℕ) {x y s : List ℕ} → first c ≡ true → Run member x y s → stops member y ≡ true → first_and_run first member (c ∷ x) ≡ Some (c ∷ s, y)
named_reads first member c {x} {y} {s} e more h =
    cond-true {A = Read (List ℕ)} (first c) (Some (c ∷ (run member x).0, (run member x).1)) None e ∙ ap (λ (p : List ℕ × List ℕ). Some (c ∷ p.0, p.1)) (run_reads more h)

pub named_none : (first member : ℕ → Bool) (x : List ℕ) → first (head x) ≡ false → first_and_run first member x ≡ None
named_none first member [] h = refl
named_none first member (c ∷ x) h = cond-false {A = Read (List ℕ)} (first c) (Some (c ∷ (run member x).0, (run member x).1)) None h

pub begins_with : (m : ℕ → Bool) (x : List ℕ) → m 0 ≡ false → begins m x ≡ m (head x)
begins_with m [] e = sym e
begins_with m (c ∷ x) e = refl
