-- The spelling of a number stands in front of what is left, and is of ASCII alone.
use Rattle.std.proofs.Common.{◌≡◌, ℕ, zero, suc, ◌+◌, ◌-◌, ◌<◌, ◌≤◌, List, [], ◌∷◌, ◌++◌, length, take, drop, get_or, Bool, true, false, cond, ◌==◌, Option, Some, None, option_map, refl, sym, ap, ◌∙◌, arith, append_assoc, length-append, inl, inr, ◌⊎◌}
use Rattle.std.proofs.lemmas.Bool.{and_parts, leb-true, eqb-true}
use Rattle.jp_model.specs.Characters.{is_digit}
use Rattle.jp_query.specs.Reading.Scalars.{Read, ◌>>=◌, choose, after, run, first_and_run}
use Rattle.jp_query.specs.Reading.Numbers.{is_positive_digit, positive, some_digits, int_digits, minus, fraction, sign, exponent_behind, exponent, number_at}
use Rattle.jp_query.proofs.Runs.{run_joins, cut_at}

-- each is a scalar of ASCII
abbrev pub AreAscii : List ℕ → Type 0
AreAscii [] = Unit {0}
AreAscii (c ∷ x) = (c < 128) × AreAscii x

ascii_append : (s t : List ℕ) → AreAscii s → AreAscii t → AreAscii (s ++ t)
ascii_append [] t a b = b
ascii_append (c ∷ s) t a b = (a.0, ascii_append s t a.1 b)

pub ascii_at : (s : List ℕ) (i d : ℕ) → i < length s → AreAscii s → get_or s i d < 128
ascii_at [] i d lt a = absurd (omega arith)
ascii_at (c ∷ s) zero d lt a = a.0
ascii_at (c ∷ s) (suc i) d lt a = ascii_at s i d (omega arith) a.1

-- some scalars of ASCII stand there, and then the rest
abbrev pub BeginsInAscii : List ℕ → List ℕ × List ℕ → Type 0
BeginsInAscii x r = (r.0 ++ r.1 ≡ x) × AreAscii r.0

bind_some : {A B : Type 0} (o : Option A) (f : A → Option B) (b : B) → (o >>= f) ≡ Some b → (a : A) × (o ≡ Some a) × (f a ≡ Some b)
bind_some None f b h = absurd (cc)
bind_some (Some a) f b h = (a, refl, h)

chosen : {A B : Type 0} (o : Option A) (here : A → B) (other b : B) → choose o here other ≡ b → ((a : A) × (o ≡ Some a) × (here a ≡ b)) ⊎ ((o ≡ None) × (other ≡ b))
chosen None here other b h = inr (refl, h)
chosen (Some a) here other b h = inl (a, refl, h)

cond_some : {A : Type 0} (t : Bool) (a b : A) → cond t (Some a) None ≡ Some b → (t ≡ true) × (a ≡ b)
cond_some true a b h = (refl, cc)
cond_some false a b h = absurd (cc)

after_is : (c : ℕ) (x y : List ℕ) → after c x ≡ Some y → c ∷ y ≡ x
after_is c [] y h = absurd (cc)
after_is c (d ∷ x) y h = let p = cond_some (d == c) x y h in let e : d ≡ c = eqb-true d c p.0 in let f : x ≡ y = p.1 in cc

digit_ascii : (c : ℕ) → is_digit c ≡ true → c < 128
digit_ascii c h = let p = and_parts _ _ h in let e : c ≤ 57 = leb-true _ _ p.1 in omega arith

run_ascii : (x : List ℕ) → AreAscii (run is_digit x).0
run_ascii [] = tt
run_ascii (c ∷ x) = step (is_digit c) refl (run_ascii x)
  where
    step : (t : Bool) → is_digit c ≡ t → AreAscii (run is_digit x).0 → AreAscii (cond {A = List ℕ × List ℕ} t (c ∷ (run is_digit x).0, (run is_digit x).1) ([], c ∷ x)).0
    step true e a = (digit_ascii c e, a)
    step false e a = tt

-- digits whose first is of a class of digits
named_stands : (first : ℕ → Bool) → ((c : ℕ) → first c ≡ true → is_digit c ≡ true) → (x : List ℕ) (r : List ℕ × List ℕ) → first_and_run first is_digit x ≡ Some r → BeginsInAscii x r
named_stands first digits [] r h = absurd (cc)
named_stands first digits (c ∷ x) r h =
    let p = cond_some (first c) (c ∷ (run is_digit x).0, (run is_digit x).1) r h in
    let all : BeginsInAscii (c ∷ x) (c ∷ (run is_digit x).0, (run is_digit x).1) = (ap (λ (y : List ℕ). c ∷ y) (run_joins is_digit x), (digit_ascii c (digits c p.0), run_ascii x)) in
    rw (← p.1) all

positive_stands : (x : List ℕ) (r : List ℕ × List ℕ) → positive x ≡ Some r → BeginsInAscii x r
unfolding positive
positive_stands x r h = named_stands is_positive_digit (λ c e. (and_parts _ _ e).0) x r h

digits_stand : (x : List ℕ) (r : List ℕ × List ℕ) → some_digits x ≡ Some r → BeginsInAscii x r
unfolding some_digits
digits_stand x r h = named_stands is_digit (λ c e. e) x r h

some_is : {A : Type 0} (a b : A) → Some a ≡ Some b → a ≡ b
some_is a b h = cc

-- one scalar
one_stands : (c : ℕ) (x y : List ℕ) (r : List ℕ × List ℕ) → c < 128 → after c x ≡ Some y → (c ∷ [], y) ≡ r → BeginsInAscii x r
one_stands c x y r lt h e = let all : BeginsInAscii x (c ∷ [], y) = (after_is c x y h, (lt, tt)) in rw (← e) all

none_stands : (x : List ℕ) (r : List ℕ × List ℕ) → ([], x) ≡ r → BeginsInAscii x r
none_stands x r e = let all : BeginsInAscii x ([], x) = (refl, tt) in rw (← e) all

-- one reading after another
then_stands : (x : List ℕ) (s t y z : List ℕ) → BeginsInAscii x (s, y) → BeginsInAscii y (t, z) → BeginsInAscii x (s ++ t, z)
then_stands x s t y z a b = let e : s ++ t ++ z ≡ s ++ (t ++ z) = simp append_assoc in (e ∙ (ap (λ (u : List ℕ). s ++ u) b.0 ∙ a.0), ascii_append s t a.1 b.1)

int_stands : (x : List ℕ) (r : List ℕ × List ℕ) → int_digits x ≡ Some r → BeginsInAscii x r
unfolding int_digits
int_stands x r h = elim (chosen (after 48 x) (λ y. Some (48 ∷ [], y)) (positive x) (Some r) h) [
  | inl p ↦ one_stands 48 x p.0 r (omega arith) p.1 (some_is _ _ p.2)
  | inr p ↦ positive_stands x r p.1
]

minus_stands : (x : List ℕ) → BeginsInAscii x (minus x)
unfolding minus
minus_stands x = elim (chosen (after 45 x) (λ y. (45 ∷ [], y)) ([], x) (minus x) refl) [
  | inl p ↦ one_stands 45 x p.0 (minus x) (omega arith) p.1 p.2
  | inr p ↦ none_stands x (minus x) p.1
]

sign_stands : (x : List ℕ) → BeginsInAscii x (sign x)
unfolding sign
sign_stands x = elim (chosen (after 43 x) (λ y. (43 ∷ [], y)) (choose (after 45 x) (λ y. (45 ∷ [], y)) ([], x)) (sign x) refl) [
  | inl p ↦ one_stands 43 x p.0 (sign x) (omega arith) p.1 p.2
  | inr p ↦ elim (chosen (after 45 x) (λ y. (45 ∷ [], y)) ([], x) (sign x) p.1) [
    | inl q ↦ one_stands 45 x q.0 (sign x) (omega arith) q.1 q.2
    | inr q ↦ none_stands x (sign x) q.1
  ]
]

fraction_stands : (x : List ℕ) (r : List ℕ × List ℕ) → fraction x ≡ Some r → BeginsInAscii x r
unfolding fraction
fraction_stands x r h = elim (chosen (after 46 x) (λ y. some_digits y >>= λ s. Some (46 ∷ s.0, s.1)) (Some ([], x)) (Some r) h) [
  | inl p ↦
      let q = bind_some (some_digits p.0) (λ s. Some (46 ∷ s.0, s.1)) r p.2 in
      let all : BeginsInAscii x (46 ∷ q.0.0, q.0.1) = then_stands x (46 ∷ []) q.0.0 p.0 q.0.1 (one_stands 46 x p.0 (46 ∷ [], p.0) (omega arith) p.1 refl) (digits_stand p.0 q.0 q.1) in
      rw (← some_is _ _ q.2) all
  | inr p ↦ none_stands x r (some_is _ _ p.1)
]

behind_stands : (letter : ℕ) (x y : List ℕ) (r : List ℕ × List ℕ) → letter < 128 → after letter x ≡ Some y → exponent_behind letter y ≡ Some r → BeginsInAscii x r
unfolding exponent_behind
behind_stands letter x y r lt at h =
    let q = bind_some (some_digits (sign y).1) (λ s. Some (letter ∷ ((sign y).0 ++ s.0), s.1)) r h in
    let inner : BeginsInAscii y ((sign y).0 ++ q.0.0, q.0.1) = then_stands y (sign y).0 q.0.0 (sign y).1 q.0.1 (sign_stands y) (digits_stand (sign y).1 q.0 q.1) in
    let all : BeginsInAscii x (letter ∷ ((sign y).0 ++ q.0.0), q.0.1) = then_stands x (letter ∷ []) ((sign y).0 ++ q.0.0) y q.0.1 (one_stands letter x y (letter ∷ [], y) lt at refl) inner in
    rw (← some_is _ _ q.2) all

exponent_stands : (x : List ℕ) (r : List ℕ × List ℕ) → exponent x ≡ Some r → BeginsInAscii x r
unfolding exponent
exponent_stands x r h = elim (chosen (after 101 x) (exponent_behind 101) (choose (after 69 x) (exponent_behind 69) (Some ([], x))) (Some r) h) [
  | inl p ↦ behind_stands 101 x p.0 r (omega arith) p.1 p.2
  | inr p ↦ elim (chosen (after 69 x) (exponent_behind 69) (Some ([], x)) (Some r) p.1) [
    | inl q ↦ behind_stands 69 x q.0 r (omega arith) q.1 q.2
    | inr q ↦ none_stands x r (some_is _ _ q.1)
  ]
]

pub number_stands : (x : List ℕ) (r : List ℕ × List ℕ) → number_at x ≡ Some r → BeginsInAscii x r
unfolding number_at
number_stands x r h =
    let i = bind_some (int_digits (minus x).1) (λ i. fraction i.1 >>= λ f. exponent f.1 >>= λ e. Some ((minus x).0 ++ (i.0 ++ (f.0 ++ e.0)), e.1)) r h in
    let f = bind_some (fraction i.0.1) (λ f. exponent f.1 >>= λ e. Some ((minus x).0 ++ (i.0.0 ++ (f.0 ++ e.0)), e.1)) r i.2 in
    let e = bind_some (exponent f.0.1) (λ e. Some ((minus x).0 ++ (i.0.0 ++ (f.0.0 ++ e.0)), e.1)) r f.2 in
    let behind_fraction : BeginsInAscii i.0.1 (f.0.0 ++ e.0.0, e.0.1) = then_stands i.0.1 f.0.0 e.0.0 f.0.1 e.0.1 (fraction_stands i.0.1 f.0 f.1) (exponent_stands f.0.1 e.0 e.1) in
    let behind_minus : BeginsInAscii (minus x).1 (i.0.0 ++ (f.0.0 ++ e.0.0), e.0.1) = then_stands (minus x).1 i.0.0 (f.0.0 ++ e.0.0) i.0.1 e.0.1 (int_stands (minus x).1 i.0 i.1) behind_fraction in
    let all : BeginsInAscii x ((minus x).0 ++ (i.0.0 ++ (f.0.0 ++ e.0.0)), e.0.1) = then_stands x (minus x).0 (i.0.0 ++ (f.0.0 ++ e.0.0)) (minus x).1 e.0.1 (minus_stands x) behind_minus in
    rw (← some_is _ _ e.2) all

second_is : (o : Read (List ℕ)) (y : List ℕ) → Some y ≡ option_map (λ r. r.1) o → (s : List ℕ) × (o ≡ Some (s, y))
second_is (Some r) y h = let e : y ≡ r.1 = cc in (r.0, ap (λ (z : List ℕ). Some (r.0, z)) (sym e))
second_is None y h = absurd (cc)

-- a number is what stands in front of what is left after it
pub number_cut : (x y : List ℕ) → Some y ≡ option_map (λ r. r.1) (number_at x) → (length y ≤ length x) × (Some (take (length x - length y) x, drop (length x - length y) x) ≡ number_at x)
number_cut x y h =
    let p = second_is (number_at x) y h in
    let q = number_stands x (p.0, y) p.1 in
    let n : length x ≡ length p.0 + length y = ap (λ (all : List ℕ). length all) (sym q.0) ∙ length-append p.0 y in
    let m : length x - length y ≡ length p.0 = omega arith in
    let cut = cut_at p.0 y x q.0 in
    (omega arith, rw (m, cut.1, cut.2) (sym p.1))
