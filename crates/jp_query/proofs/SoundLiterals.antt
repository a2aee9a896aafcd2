-- What is read of literals is spelled so.
use Rattle.std.proofs.Common.{◌≡◌, ◌∙◌, ℕ, List, [], ◌∷◌, ◌++◌, Bool, true, false, cond, not, ◌==◌, Option, Some, None, refl, sym, ap, subst, ⊎_elim, codes, append_assoc}
use Rattle.std.proofs.lemmas.Bool.{and_parts}
use Rattle.jp_model.specs.Characters.{is_digit}
use Rattle.jp_model.specs.Json.Numbers.{AreDigits, AreSomeDigits, IsInt, Sign, no_sign, plus_sign, minus_sign, Numeral, IsExponent, IsNumeral, minus_bytes, fraction_bytes, sign_bytes, exponent_bytes, numeral_bytes}
use Rattle.jp_model.specs.Query.Spelling as s
use Rattle.jp_model.specs.Query.Spelling.{Run, run_ends, run_goes_on, IsLiteral}
use Rattle.jp_model.specs.Query.Syntax as syntax
use Rattle.jp_model.specs.Query.Syntax.{Literal}
use Rattle.jp_query.specs.Reading.Scalars.{choose, after, after_all, begins}
use Rattle.jp_query.specs.Reading.Numbers.{positive, is_positive_digit, some_digits, int_digits, minus, fraction, sign, exponent_behind, exponent, number_at, is_int_first}
use Rattle.jp_query.specs.Reading.Strings.{string_at}
use Rattle.jp_query.specs.Reading.Literals.{is_any_quote, word_at, literal_at}
use Rattle.jp_query.proofs.LawTools.{bind_some, chosen, decided, as_read, after_is, after_all_is, named_stands}
use Rattle.jp_query.proofs.SoundLeaves.{string_sound}

run_front : {m : ℕ → Bool} {x y t : List ℕ} → Run m x y t → x ≡ t ++ y
run_front run_ends = refl
run_front (run_goes_on {c} e more) = ap (λ z. c ∷ z) (run_front more)

run_digits : {x y t : List ℕ} → Run is_digit x y t → AreDigits t
run_digits run_ends = tt
run_digits (run_goes_on e more) = (e, run_digits more)

-- some of the scalars in front, with a fact
abbrev Part : (List ℕ → Type 0) → List ℕ → List ℕ → List ℕ → Type 0
Part P x y t = P t × (x ≡ t ++ y)

not_48 : (c : ℕ) → not (c == 48) ≡ true → (c == 48) ≡ false
not_48 c h = step (c == 48) h
  where
    step : (b : Bool) → not b ≡ true → b ≡ false
    step true h = absurd (cc)
    step false h = refl

int_of_run : (c : ℕ) (x y t : List ℕ) → is_positive_digit c ≡ true → Run is_digit x y t → IsInt (c ∷ t)
int_of_run c x y [] e more = (and_parts _ _ e).0
int_of_run c x y (d ∷ ds) e more = let p = and_parts _ _ e in (p.0, not_48 c p.1, run_digits more)

int_digits_sound : (x : List ℕ) (r : List ℕ × List ℕ) → int_digits x ≡ Some r → Part IsInt x r.1 r.0
unfolding int_digits positive
int_digits_sound x r h = ⊎_elim
    (λ a. as_read (Part IsInt x) _ r a.2 (refl, after_is 48 x a.0 a.1))
    (λ a. named_stands is_positive_digit is_digit (Part IsInt) (λ c x y t e more. (int_of_run c x y t e more, ap (λ z. c ∷ z) (run_front more))) x r a.1)
    (chosen (after 48 x) _ _ (Some r) h)

some_digits_sound : (x : List ℕ) (r : List ℕ × List ℕ) → some_digits x ≡ Some r → Part AreSomeDigits x r.1 r.0
unfolding some_digits
some_digits_sound x r h = named_stands is_digit is_digit (Part AreSomeDigits) (λ c x y t e more. ((e, run_digits more), ap (λ z. c ∷ z) (run_front more))) x r h

-- a part that spells something of the numeral
abbrev StandsInFront : {A : Type 0} → (A → Type 0) → (A → List ℕ) → List ℕ → List ℕ → List ℕ → Type 0
StandsInFront {A} P spelling x y t = (a : A) × P a × (spelling a ≡ t) × (x ≡ t ++ y)

abbrev Any : {A : Type 0} → A → Type 0
Any a = Unit {0}

minus_sound : (x : List ℕ) → StandsInFront {A = Bool} Any minus_bytes x (minus x).1 (minus x).0
unfolding minus
minus_sound x = step (after 45 x) refl
  where
    step : (o : Option (List ℕ)) → after 45 x ≡ o → StandsInFront {A = Bool} Any minus_bytes x (choose {B = List ℕ × List ℕ} o (λ y. (45 ∷ [], y)) ([], x)).1 (choose {B = List ℕ × List ℕ} o (λ y. (45 ∷ [], y)) ([], x)).0
    step None e = (false, tt, refl, refl)
    step (Some y) e = (true, tt, refl, after_is 45 x y e)

sign_sound : (x : List ℕ) → StandsInFront {A = Sign} Any sign_bytes x (sign x).1 (sign x).0
unfolding sign
sign_sound x = step (after 43 x) (after 45 x) refl refl
  where
    step : (o p : Option (List ℕ)) → after 43 x ≡ o → after 45 x ≡ p → StandsInFront {A = Sign} Any sign_bytes x (choose {B = List ℕ × List ℕ} o (λ y. (43 ∷ [], y)) (choose p (λ y. (45 ∷ [], y)) ([], x))).1 (choose {B = List ℕ × List ℕ} o (λ y. (43 ∷ [], y)) (choose p (λ y. (45 ∷ [], y)) ([], x))).0
    step (Some y) p e f = (plus_sign, tt, refl, after_is 43 x y e)
    step None (Some y) e f = (minus_sign, tt, refl, after_is 45 x y f)
    step None None e f = (no_sign, tt, refl, refl)

fraction_spelled : (ds y z : List ℕ) → AreSomeDigits ds → y ≡ ds ++ z → StandsInFront AreDigits fraction_bytes (46 ∷ y) z (46 ∷ ds)
fraction_spelled [] y z h e = absurd h
fraction_spelled (d ∷ ds) y z h e = (d ∷ ds, h, refl, ap (λ w. 46 ∷ w) e)

fraction_sound : (x : List ℕ) (r : List ℕ × List ℕ) → fraction x ≡ Some r → StandsInFront AreDigits fraction_bytes x r.1 r.0
unfolding fraction
fraction_sound x r h = ⊎_elim
    (λ a.
    let b = bind_some (some_digits a.0) _ r a.2 in
    let d = some_digits_sound a.0 b.0 b.1 in
    as_read (StandsInFront AreDigits fraction_bytes x) _ r b.2 (subst (λ z. StandsInFront AreDigits fraction_bytes z b.0.1 (46 ∷ b.0.0)) (sym (after_is 46 x a.0 a.1)) (fraction_spelled b.0.0 a.0 b.0.1 d.0 d.1)))
    (λ a. as_read (StandsInFront AreDigits fraction_bytes x) _ r a.1 ([], tt, refl, refl))
    (chosen (after 46 x) _ _ (Some r) h)

behind_sound : (capital : Bool) (letter : ℕ) (x : List ℕ) (r : List ℕ × List ℕ) → cond capital 0x45 0x65 ≡ letter → exponent_behind letter x ≡ Some r → StandsInFront IsExponent exponent_bytes (letter ∷ x) r.1 r.0
unfolding exponent_behind
behind_sound capital letter x r l h =
    let a = bind_some (some_digits (sign x).1) _ r h in
    let d = some_digits_sound (sign x).1 a.0 a.1 in
    let g = sign_sound x in
    as_read (StandsInFront IsExponent exponent_bytes (letter ∷ x)) _ r a.2 (
      Some (record { capital = capital; sign = g.0; digits = a.0.0 }),
      d.0,
      subst (λ c. cond capital 0x45 0x65 ∷ (sign_bytes g.0 ++ a.0.0) ≡ c ∷ ((sign x).0 ++ a.0.0)) l (ap (λ w. cond capital 0x45 0x65 ∷ (w ++ a.0.0)) g.2),
      ap (λ w. letter ∷ w) (g.3 ∙ (ap (λ w. (sign x).0 ++ w) d.1 ∙ sym (append_assoc (sign x).0 a.0.0 a.0.1))),
    )

exponent_sound : (x : List ℕ) (r : List ℕ × List ℕ) → exponent x ≡ Some r → StandsInFront IsExponent exponent_bytes x r.1 r.0
unfolding exponent
exponent_sound x r h = ⊎_elim
    (λ a. subst (λ z. StandsInFront IsExponent exponent_bytes z r.1 r.0) (sym (after_is 101 x a.0 a.1)) (behind_sound false 101 a.0 r refl a.2))
    (λ a. ⊎_elim
    (λ b. subst (λ z. StandsInFront IsExponent exponent_bytes z r.1 r.0) (sym (after_is 69 x b.0 b.1)) (behind_sound true 69 b.0 r refl b.2))
    (λ b. as_read (StandsInFront IsExponent exponent_bytes x) _ r b.1 (None, tt, refl, refl))
    (chosen (after 69 x) _ _ (Some r) a.1))
    (chosen (after 101 x) _ _ (Some r) h)

pub four : (a b c d y : List ℕ) → a ++ (b ++ (c ++ (d ++ y))) ≡ (a ++ (b ++ (c ++ d))) ++ y
four a b c d y = sym (append_assoc a (b ++ (c ++ d)) y ∙ ap (λ z. a ++ z) (append_assoc b (c ++ d) y ∙ ap (λ z. b ++ z) (append_assoc c d y)))

pub number_sound : (x : List ℕ) (r : List ℕ × List ℕ) → number_at x ≡ Some r → StandsInFront IsNumeral numeral_bytes x r.1 r.0
unfolding number_at
number_sound x r h =
    let a = bind_some (int_digits (minus x).1) _ r h in
    let b = bind_some (fraction a.0.1) _ r a.2 in
    let c = bind_some (exponent b.0.1) _ r b.2 in
    let m = minus_sound x in
    let i = int_digits_sound (minus x).1 a.0 a.1 in
    let f = fraction_sound a.0.1 b.0 b.1 in
    let e = exponent_sound b.0.1 c.0 c.1 in
    let n : Numeral = record { negative = m.0; int = a.0.0; fraction = f.0; exponent = e.0 } in
    let same : numeral_bytes n ≡ (minus x).0 ++ (a.0.0 ++ (b.0.0 ++ c.0.0)) = rw (m.2, f.2, e.2) refl in
    let stands : x ≡ ((minus x).0 ++ (a.0.0 ++ (b.0.0 ++ c.0.0))) ++ c.0.1 =
    m.3 ∙ (ap (λ z. (minus x).0 ++ z) (i.1 ∙ ap (λ z. a.0.0 ++ z) (f.3 ∙ ap (λ z. b.0.0 ++ z) e.3)) ∙ four (minus x).0 a.0.0 b.0.0 c.0.0 c.0.1) in
    as_read (StandsInFront IsNumeral numeral_bytes x) _ r c.2 (n, record { int = i.0; fraction = f.1; exponent = e.1 }, same, stands)

pub literal_sound : (x : List ℕ) (r : Literal × List ℕ) → literal_at x ≡ Some r → IsLiteral x r.1 r.0
unfolding literal_at word_at
literal_sound x r h = ⊎_elim
    (λ a.
    let b = bind_some (string_at x) _ r a.1 in
    as_read (IsLiteral x) _ r b.2 (s.string_spelled (string_sound x b.0 b.1)))
    (λ a. ⊎_elim
    (λ b.
    let c = bind_some (number_at x) _ r b.1 in
    let n = number_sound x c.0 c.1 in
    as_read (IsLiteral x) _ r c.2 (subst (λ t. IsLiteral x c.0.1 (syntax.number_literal t)) n.2 (s.number_spelled n.1 (subst (λ t. x ≡ t ++ c.0.1) (sym n.2) n.3))))
    (λ b. ⊎_elim (λ c. as_read (IsLiteral x) _ r c.2 (s.true_spelled (after_all_is (codes "true") x c.0 c.1))) (λ c.
    ⊎_elim (λ c. as_read (IsLiteral x) _ r c.2 (s.false_spelled (after_all_is (codes "false") x c.0 c.1))) (λ c.
    ⊎_elim (λ c. as_read (IsLiteral x) _ r c.2 (s.null_spelled (after_all_is (codes "null") x c.0 c.1))) (λ c. absurd (cc))
    (chosen (after_all (codes "null") x) _ _ (Some r) c.1))
    (chosen (after_all (codes "false") x) _ _ (Some r) c.1))
    (chosen (after_all (codes "true") x) _ _ (Some r) b.1))
    (decided (begins is_int_first x) _ _ (Some r) a.1))
    (decided (begins is_any_quote x) _ _ (Some r) h)
