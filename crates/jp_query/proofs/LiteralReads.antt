-- Literals that stand there are read.
use Rattle.std.proofs.Common.{◌≡◌, ◌∙◌, ℕ, List, [], ◌∷◌, ◌++◌, Bool, true, false, cond, ◌||◌, ◌==◌, Option, Some, None, refl, sym, subst, ⊎_elim, codes, arith, append_assoc}
use Rattle.std.proofs.lemmas.Bool.{eqb-true, or_left, or_right, or_cases, or_from, and_parts, and_left, leb-true, lt-leb}
use Rattle.jp_model.specs.Characters.{is_digit, is_lower}
use Rattle.jp_model.specs.Json.Numbers.{AreDigits, AreSomeDigits, IsInt, Sign, no_sign, plus_sign, minus_sign, Exponent, Numeral, IsExponent, IsNumeral, minus_bytes, fraction_bytes, sign_bytes, exponent_bytes, numeral_bytes}
use Rattle.jp_model.specs.Query.Spelling.{Run, run_ends, run_goes_on, IsLiteral, number_spelled, string_spelled, true_spelled, false_spelled, null_spelled, double_quoted, single_quoted, is_function_scalar}
use Rattle.jp_model.specs.Query.Syntax.{Literal}
use Rattle.jp_query.specs.Reading.Scalars.{choose, after, begins, first_and_run, call_start, function_name}
use Rattle.jp_query.specs.Reading.Numbers.{positive, is_positive_digit, is_int_first, int_digits, minus, some_digits, fraction, sign, exponent_behind, exponent, number_at}
use Rattle.jp_query.specs.Reading.Literals.{is_any_quote, word_at, literal_at}
use Rattle.jp_query.proofs.Follows.{head, next, ends_path, path_head, apart, after_none, not_there, stops, stops_at, named_reads, begins_with}
use Rattle.jp_query.proofs.LeafReads.{string_reads, string_first, no_start}
use Rattle.jp_query.proofs.SoundLiterals.{four}

digits_run : (ds z : List ℕ) → AreDigits ds → Run is_digit (ds ++ z) z ds
digits_run [] z h = run_ends
digits_run (d ∷ ds) z h = run_goes_on h.0 (digits_run ds z h.1)

int_head : (i z : List ℕ) → IsInt i → is_digit (head (i ++ z)) ≡ true
int_head [] z h = absurd h
int_head (d ∷ []) z h = h
int_head (d ∷ e ∷ ds) z h = h.0

positive_first : (d : ℕ) → is_digit d ≡ true → (d == 48) ≡ false → is_positive_digit d ≡ true
positive_first d h e = rw (h, e) refl

int_read : (i z : List ℕ) → IsInt i → stops is_digit z ≡ true → int_digits (i ++ z) ≡ Some (i, z)
unfolding int_digits positive
int_read [] z h g = absurd h
int_read (d ∷ []) z h g = step (d == 48) refl
  where
    step : (t : Bool) → (d == 48) ≡ t → choose (after 48 (d ∷ z)) (λ y. Some (48 ∷ [], y)) (first_and_run is_positive_digit is_digit (d ∷ z)) ≡ Some (d ∷ [], z)
    step true e = subst (λ c. choose (after 48 (c ∷ z)) (λ y. Some (48 ∷ [], y)) (first_and_run is_positive_digit is_digit (c ∷ z)) ≡ Some (c ∷ [], z)) (sym (eqb-true d 48 e)) refl
    step false e = rw (after_none 48 (d ∷ z) e) (named_reads is_positive_digit is_digit d (positive_first d h e) run_ends g)
int_read (d ∷ e ∷ ds) z h g = rw (after_none 48 (d ∷ e ∷ (ds ++ z)) h.1) (named_reads is_positive_digit is_digit d (positive_first d h.0 h.1) (digits_run (e ∷ ds) z h.2) g)

minus_read : (b : Bool) (z : List ℕ) → is_digit (head z) ≡ true → minus (minus_bytes b ++ z) ≡ (minus_bytes b, z)
unfolding minus
minus_read true z h = refl
minus_read false z h = rw (not_there is_digit 45 z h refl) refl

some_read : (ds z : List ℕ) → AreSomeDigits ds → stops is_digit z ≡ true → some_digits (ds ++ z) ≡ Some (ds, z)
unfolding some_digits
some_read [] z h g = absurd h
some_read (d ∷ ds) z h g = named_reads is_digit is_digit d h.0 (digits_run ds z h.1) g

fraction_read : (ds z : List ℕ) → AreDigits ds → stops is_digit z ≡ true → (head z == 46) ≡ false → fraction (fraction_bytes ds ++ z) ≡ Some (fraction_bytes ds, z)
unfolding fraction
fraction_read [] z h g e = rw (after_none 46 z e) refl
fraction_read (d ∷ ds) z h g e = rw (some_read (d ∷ ds) z h g) refl

some_head : (ds z : List ℕ) → AreSomeDigits ds → is_digit (head (ds ++ z)) ≡ true
some_head [] z h = absurd h
some_head (d ∷ ds) z h = h.0

sign_read : (s : Sign) (z : List ℕ) → is_digit (head z) ≡ true → sign (sign_bytes s ++ z) ≡ (sign_bytes s, z)
unfolding sign
sign_read no_sign z h = rw (not_there is_digit 43 z h refl, not_there is_digit 45 z h refl) refl
sign_read plus_sign z h = refl
sign_read minus_sign z h = refl

behind_read : (letter : ℕ) (s : Sign) (ds z : List ℕ) → AreSomeDigits ds → stops is_digit z ≡ true → exponent_behind letter ((sign_bytes s ++ ds) ++ z) ≡ Some (letter ∷ (sign_bytes s ++ ds), z)
unfolding exponent_behind
behind_read letter s ds z h g = rw (append_assoc (sign_bytes s) ds z, sign_read s (ds ++ z) (some_head ds z h), some_read ds z h g) refl

exponent_read : (e : Option Exponent) (z : List ℕ) → IsExponent e → stops is_digit z ≡ true → (head z == 101) ≡ false → (head z == 69) ≡ false → exponent (exponent_bytes e ++ z) ≡ Some (exponent_bytes e, z)
unfolding exponent
exponent_read None z h g a b = rw (after_none 101 z a, after_none 69 z b) refl
exponent_read (Some e) z h g a b = step e.capital
  where
    step : (capital : Bool) → choose (after 101 (cond capital 0x45 0x65 ∷ ((sign_bytes e.sign ++ e.digits) ++ z))) (exponent_behind 101) (choose (after 69 (cond capital 0x45 0x65 ∷ ((sign_bytes e.sign ++ e.digits) ++ z))) (exponent_behind 69) (Some ([], cond capital 0x45 0x65 ∷ ((sign_bytes e.sign ++ e.digits) ++ z)))) ≡ Some (cond capital 0x45 0x65 ∷ (sign_bytes e.sign ++ e.digits), z)
    step true = behind_read 69 e.sign e.digits z h g
    step false = behind_read 101 e.sign e.digits z h g

exponent_head : (P : ℕ → Type 0) → P 69 → P 101 → (e : Option Exponent) (z : List ℕ) → P (head z) → P (head (exponent_bytes e ++ z))
exponent_head P p69 p101 None z h = h
exponent_head P p69 p101 (Some e) z h = step e.capital
  where
    step : (capital : Bool) → P (cond capital 0x45 0x65)
    step true = p69
    step false = p101

fraction_head : (P : ℕ → Type 0) → P 46 → (ds z : List ℕ) → P (head z) → P (head (fraction_bytes ds ++ z))
fraction_head P p46 [] z h = h
fraction_head P p46 (d ∷ ds) z h = p46

number_read : (n : Numeral) (y : List ℕ) → IsNumeral n → ends_path (next y) ≡ true → number_at (numeral_bytes n ++ y) ≡ Some (numeral_bytes n, y)
unfolding number_at
number_read n y h e =
    let m = minus_bytes n.negative in
    let i = n.int in
    let f = fraction_bytes n.fraction in
    let x = exponent_bytes n.exponent in
    let digit : is_digit (head y) ≡ false = path_head (λ c. is_digit c ≡ false) refl refl refl refl refl refl refl refl refl refl refl refl refl refl y e in
    let point : (head y == 46) ≡ false = path_head (λ c. (c == 46) ≡ false) refl refl refl refl refl refl refl refl refl refl refl refl refl refl y e in
    let small : (head y == 101) ≡ false = path_head (λ c. (c == 101) ≡ false) refl refl refl refl refl refl refl refl refl refl refl refl refl refl y e in
    let large : (head y == 69) ≡ false = path_head (λ c. (c == 69) ≡ false) refl refl refl refl refl refl refl refl refl refl refl refl refl refl y e in
    let digit_behind : is_digit (head (x ++ y)) ≡ false = exponent_head (λ c. is_digit c ≡ false) refl refl n.exponent y digit in
    let point_behind : (head (x ++ y) == 46) ≡ false = exponent_head (λ c. (c == 46) ≡ false) refl refl n.exponent y point in
    let digit_last : is_digit (head (f ++ (x ++ y))) ≡ false = fraction_head (λ c. is_digit c ≡ false) refl n.fraction (x ++ y) digit_behind in
    let a = minus_read n.negative (i ++ (f ++ (x ++ y))) (int_head i (f ++ (x ++ y)) h.int) in
    let b = int_read i (f ++ (x ++ y)) h.int (stops_at is_digit (f ++ (x ++ y)) digit_last) in
    let c = fraction_read n.fraction (x ++ y) h.fraction (stops_at is_digit (x ++ y) digit_behind) point_behind in
    let d = exponent_read n.exponent y h.exponent (stops_at is_digit y digit) small large in
    rw (← four m i f x y, a, b, c, d) refl

number_first : (n : Numeral) (y : List ℕ) → IsNumeral n → is_int_first (head (numeral_bytes n ++ y)) ≡ true
number_first n y h = subst (λ z. is_int_first (head z) ≡ true) (four (minus_bytes n.negative) n.int (fraction_bytes n.fraction) (exponent_bytes n.exponent) y) (step n.negative)
  where
    step : (b : Bool) → is_int_first (head (minus_bytes b ++ (n.int ++ (fraction_bytes n.fraction ++ (exponent_bytes n.exponent ++ y))))) ≡ true
    step true = refl
    step false = or_left _ _ (int_head n.int (fraction_bytes n.fraction ++ (exponent_bytes n.exponent ++ y)) h.int)

-- what a literal begins with
abbrev pub is_literal_first : ℕ → Bool
is_literal_first c = is_any_quote c || is_int_first c || c == 116 || c == 102 || c == 110

pub literal_first : {x y : List ℕ} {c : Literal} → IsLiteral x y c → is_literal_first (head x) ≡ true
literal_first (number_spelled {n} {x} {y} h e) = subst (λ z. is_literal_first (head z) ≡ true) (sym e) (or_left _ _ (or_left _ _ (or_left _ _ (or_right _ _ (number_first n y h)))))
literal_first (string_spelled (double_quoted q)) = refl
literal_first (string_spelled (single_quoted q)) = refl
literal_first (true_spelled e) = subst (λ z. is_literal_first (head z) ≡ true) (sym e) refl
literal_first (false_spelled e) = subst (λ z. is_literal_first (head z) ≡ true) (sym e) refl
literal_first (null_spelled e) = subst (λ z. is_literal_first (head z) ≡ true) (sym e) refl

int_no_quote : (c : ℕ) → is_int_first c ≡ true → is_any_quote c ≡ false
int_no_quote c h = or_from (c == 34) (c == 39) (apart is_int_first 34 c h refl) (apart is_int_first 39 c h refl)

pub literal_reads : {x y : List ℕ} {c : Literal} → IsLiteral x y c → ends_path (next y) ≡ true → literal_at x ≡ Some (c, y)
unfolding literal_at word_at
literal_reads (number_spelled {n} {x} {y} h e) g =
    let first = number_first n y h in
    let z = numeral_bytes n ++ y in
    let no_quote : begins is_any_quote z ≡ false = begins_with is_any_quote z refl ∙ int_no_quote (head z) first in
    let int : begins is_int_first z ≡ true = begins_with is_int_first z refl ∙ first in
    rw (e, no_quote, int, number_read n y h g) refl
literal_reads (string_spelled {x} q) g =
    let quote : begins is_any_quote x ≡ true = begins_with is_any_quote x refl ∙ string_first q in
    rw (quote, string_reads q) refl
literal_reads (true_spelled e) g = rw e refl
literal_reads (false_spelled e) g = rw e refl
literal_reads (null_spelled e) g = rw e refl

int_no_lower : (c : ℕ) → is_int_first c ≡ true → is_lower c ≡ false
int_no_lower c h = ⊎_elim
    (λ d. let p = and_parts _ _ d in let most = leb-true c 0x39 p.1 in and_left _ _ (lt-leb 0x61 c (omega arith)))
    (λ d. subst (λ n. is_lower n ≡ false) (sym (eqb-true c 45 d)) refl)
    (or_cases (is_digit c) (c == 45) h)

word_no_call : (c : ℕ) (s y : List ℕ) → is_lower c ≡ true → Run is_function_scalar (s ++ y) y s → ends_path (next y) ≡ true → call_start (c ∷ (s ++ y)) ≡ None
unfolding call_start function_name
word_no_call c s y e more g =
    let ends : is_function_scalar (head y) ≡ false = path_head (λ c. is_function_scalar c ≡ false) refl refl refl refl refl refl refl refl refl refl refl refl refl refl y g in
    let none : (head y == 40) ≡ false = path_head (λ c. (c == 40) ≡ false) refl refl refl refl refl refl refl refl refl refl refl refl refl refl y g in
    rw (named_reads is_lower is_function_scalar c e more (stops_at is_function_scalar y ends), after_none 40 y none) refl

-- no call begins where a literal stands
pub literal_no_call : {x y : List ℕ} {c : Literal} → IsLiteral x y c → ends_path (next y) ≡ true → call_start x ≡ None
literal_no_call (number_spelled {n} {x} {y} h e) g = subst (λ z. call_start z ≡ None) (sym e) (no_start (numeral_bytes n ++ y) (int_no_lower (head (numeral_bytes n ++ y)) (number_first n y h)))
literal_no_call (string_spelled (double_quoted {x} q)) g = no_start (34 ∷ x) refl
literal_no_call (string_spelled (single_quoted {x} q)) g = no_start (39 ∷ x) refl
literal_no_call (true_spelled {x} {y} e) g = subst (λ z. call_start z ≡ None) (sym e) (word_no_call 116 (codes "rue") y refl (run_goes_on refl (run_goes_on refl (run_goes_on refl run_ends))) g)
literal_no_call (false_spelled {x} {y} e) g = subst (λ z. call_start z ≡ None) (sym e) (word_no_call 102 (codes "alse") y refl (run_goes_on refl (run_goes_on refl (run_goes_on refl (run_goes_on refl run_ends)))) g)
literal_no_call (null_spelled {x} {y} e) g = subst (λ z. call_start z ≡ None) (sym e) (word_no_call 110 (codes "ull") y refl (run_goes_on refl (run_goes_on refl (run_goes_on refl run_ends))) g)
