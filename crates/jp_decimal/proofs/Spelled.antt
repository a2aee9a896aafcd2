-- The parts that bytes spell, and what follows from how they begin.
use Rattle.std.proofs.Common.{◌≡◌, ◌≢◌, ℕ, suc, nat_lt, ◌-◌, ◌<◌, ◌≤◌, Bool, true, false, ◌==◌, List, [], ◌∷◌, ◌++◌, length, drop, get_or, sym, ◌∙◌, ap, ap₂, subst, refl, arith, ℤ, pos, ◌-ℤ◌, Option, Some, None}
use Rattle.std.proofs.lemmas.Bool.Decides.{nat_tests}
use Rattle.jp_model.specs.Characters.{is_digit, digits_value}
use Rattle.jp_model.specs.Json.Numbers.{Sign, Exponent, AreDigits, AreSomeDigits, sign_bytes, is_minus, exponent_bytes, without_leading_zeros, signed, Numeral, IsInt, fraction_bytes, minus_bytes, IsNumeral, numeral_bytes, head_of, numeral_of}
use Rattle.jp_decimal.proofs.Signs.{number_of}
use Rattle.jp_decimal.specs.declared.parts.Magnitude.{Magnitude}
use Rattle.jp_decimal.specs.declared.fault.NumberFault.{NumberFault}
use Rattle.jp_decimal.specs.declared.fault.NumberFault.TheVariants.{Shape, Exponent as TooLong}
use Rattle.jp_decimal.specs.Steps.{SpellsExponent, ExponentIs, letter, RefusesExponent, SpellsBehindInt, RefusesBehindInt, SpellsUnsigned, MagnitudeIs, RefusesUnsigned}
use Rattle.jp_decimal.specs.Reading.{SpellsNumeral, ReadsAs, RefusesNumber}
use Rattle.jp_model.proofs.Reader.Numbers.{parts_read}
use Rattle.jp_decimal.proofs.ReadDigits.{digit_in, without_zeros_value}

true_or_false : (b : Bool) → b ≡ true → b ≡ false → ⊥
true_or_false b t f = cc

pub digits_all : (ds : List ℕ) (n : ℕ) → length ds ≤ n → ((j : ℕ) → j < n → is_digit (get_or ds j 0x30) ≡ true) → AreDigits ds
digits_all [] n l h = tt
digits_all (d ∷ ds) n l h = (h 0 (omega arith), digits_all ds (n - 1) (omega arith) (λ j m. h (suc j) (omega arith)))

pub some_from_digits : (ds : List ℕ) → 0 < length ds → AreDigits ds → AreSomeDigits ds
some_from_digits [] l a = absurd (omega arith)
some_from_digits (d ∷ ds) l a = a

pub digits_from_some : (ds : List ℕ) → AreSomeDigits ds → AreDigits ds
digits_from_some [] a = absurd a
digits_from_some (d ∷ ds) a = a

pub not_all : (ds : List ℕ) (k : ℕ) → k < length ds → is_digit (get_or ds k 0) ≡ false → AreSomeDigits ds → ⊥
not_all ds k l f a = true_or_false (is_digit (get_or ds k 0)) (digit_in ds k (digits_from_some ds a) l) f

pub no_exponent : (text rest digits : List ℕ) (b : Bool) → letter b ∷ rest ≡ text → ((s : Sign) (ds : List ℕ) → AreSomeDigits ds → sign_bytes s ++ ds ≡ rest → ds ≡ digits) → (AreSomeDigits digits → ⊥)
    → (x : Option Exponent) → SpellsExponent text x → ⊥
no_exponent text rest digits b e only h None p = let g : [] ≡ letter b ∷ rest = p.spelled ∙ sym e in cc
no_exponent text rest digits b e only h (Some x) p =
    let P : List ℕ → Type 0 = λ ds. AreSomeDigits ds in
    h (subst P (only x.sign x.digits p.correct (ap (drop 1) (p.spelled ∙ sym e))) p.correct)

pub spells_exponent : (text rest digits : List ℕ) (b : Bool) (s : Sign) → letter b ∷ rest ≡ text → sign_bytes s ++ digits ≡ rest → AreSomeDigits digits
    → SpellsExponent text (Some (record { capital = b; sign = s; digits = digits }))
spells_exponent text rest digits b s e f a = record { correct = a; spelled = ap (λ (xs : List ℕ). letter b ∷ xs) f ∙ e }

short_enough : (kept digits : List ℕ) → kept ≡ without_leading_zeros digits → length kept ≤ 15 → nat_lt 15 (length (without_leading_zeros digits)) ≡ false
short_enough kept digits e h = rw (← e) (grind (arith, nat_tests))

pub exponent_is : (text rest digits kept : List ℕ) (b : Bool) (s : Sign) (negative : Bool) (v : ℕ) (z : ℤ) → letter b ∷ rest ≡ text → sign_bytes s ++ digits ≡ rest → AreSomeDigits digits
    → kept ≡ without_leading_zeros digits → length kept ≤ 15 → is_minus s ≡ negative → v ≡ digits_value kept → signed negative v ≡ z → ExponentIs text z
exponent_is text rest digits kept b s negative v z e f a k short m i g = record {
  exponent = Some (record { capital = b; sign = s; digits = digits });
  spells = spells_exponent text rest digits b s e f a;
  short = short_enough kept digits k short;
  is = ap₂ signed m (sym (without_zeros_value digits) ∙ (sym (ap digits_value k) ∙ sym i)) ∙ g;
}

pub longer : (kept digits : List ℕ) → kept ≡ without_leading_zeros digits → 15 < length kept → nat_lt 15 (length (without_leading_zeros digits)) ≡ true
longer kept digits e h = rw (← e) (grind (arith, nat_tests))

-- digits before what is no digit
pub digits_same : (ds es r s : List ℕ) → AreDigits ds → AreDigits es → is_digit (head_of r) ≡ false → is_digit (head_of s) ≡ false → ds ++ r ≡ es ++ s → (ds ≡ es) × (r ≡ s)
digits_same [] [] r s a b p q h = (refl, h)
digits_same [] (e ∷ es) r s a b p q h = absurd (true_or_false (is_digit e) b.0 (sym (ap (λ xs. is_digit (head_of xs)) h) ∙ p))
digits_same (d ∷ ds) [] r s a b p q h = absurd (true_or_false (is_digit d) a.0 (ap (λ xs. is_digit (head_of xs)) h ∙ q))
digits_same (d ∷ ds) (e ∷ es) r s a b p q h =
    let same = digits_same ds es r s a.1 b.1 p q (ap (drop 1) h) in
    (ap₂ (λ x (xs : List ℕ). x ∷ xs) (ap head_of h) same.0, same.1)

letter_no_digit : (b : Bool) → is_digit (letter b) ≡ false
letter_no_digit true = refl
letter_no_digit false = refl

letter_no_point : (b : Bool) → letter b ≡ 0x2E → ⊥
letter_no_point true h = omega arith
letter_no_point false h = omega arith

exponent_head : (x : Option Exponent) → is_digit (head_of (exponent_bytes x)) ≡ false
exponent_head None = refl
exponent_head (Some e) = letter_no_digit e.capital

exponent_no_point : (x : Option Exponent) → head_of (exponent_bytes x) ≡ 0x2E → ⊥
exponent_no_point None h = absurd (omega (arith, h))
exponent_no_point (Some e) h = letter_no_point e.capital h

pub fraction_head : (f : List ℕ) (x : Option Exponent) → is_digit (head_of (fraction_bytes f ++ exponent_bytes x)) ≡ false
fraction_head [] x = exponent_head x
fraction_head (d ∷ ds) x = refl

no_point_spells : (text f : List ℕ) (x : Option Exponent) → head_of text ≢ 0x2E → SpellsBehindInt text f x → SpellsExponent text x
no_point_spells text [] x n p = record { correct = p.correct; spelled = p.spelled }
no_point_spells text (d ∷ ds) x n p = absurd (n (sym (ap head_of p.spelled)))

pub no_point_refused : (fault : NumberFault) (text : List ℕ) → head_of text ≢ 0x2E → RefusesExponent text fault → RefusesBehindInt text fault
no_point_refused Shape text n h = λ f x p. h x (no_point_spells text f x n p)
no_point_refused TooLong text n h = ([], h.0, record { digits = tt; correct = h.1.correct; spelled = h.1.spelled }, h.2)

-- with a point
point_spells : (text rest ds r f : List ℕ) (x : Option Exponent) → 0x2E ∷ rest ≡ text → ds ++ r ≡ rest → AreDigits ds → is_digit (head_of r) ≡ false → SpellsBehindInt text f x
    → (f ≡ ds) × (0 < length f) × SpellsExponent r x
point_spells text rest ds r [] x e j a n p = absurd (exponent_no_point x (ap head_of (p.spelled ∙ sym e)))
point_spells text rest ds r (d ∷ f) x e j a n p =
    let same = digits_same (d ∷ f) ds (exponent_bytes x) r p.digits a (exponent_head x) n (ap (drop 1) (p.spelled ∙ sym e) ∙ sym j) in
    (same.0, omega arith, record { correct = p.correct; spelled = same.1 })

some_fraction : (ds r text : List ℕ) (x : Option Exponent) → 0 < length ds → 0x2E ∷ (ds ++ r) ≡ text → exponent_bytes x ≡ r → fraction_bytes ds ++ exponent_bytes x ≡ text
some_fraction [] r text x l e p = absurd (omega arith)
some_fraction (d ∷ ds) r text x l e p = ap (λ (xs : List ℕ). 0x2E ∷ ((d ∷ ds) ++ xs)) p ∙ e

pub point_refused : (fault : NumberFault) (text rest ds r : List ℕ) → 0x2E ∷ rest ≡ text → ds ++ r ≡ rest → AreDigits ds → is_digit (head_of r) ≡ false → 0 < length ds → RefusesExponent r fault → RefusesBehindInt text fault
point_refused Shape text rest ds r e j a n l h = λ f x p. h x (point_spells text rest ds r f x e j a n p).2
point_refused TooLong text rest ds r e j a n l h =
    (ds, h.0, record { digits = a; correct = h.1.correct; spelled = some_fraction ds r text h.0 l (ap (λ (xs : List ℕ). 0x2E ∷ xs) j ∙ e) h.1.spelled }, h.2)

int_digits : (ds : List ℕ) → IsInt ds → AreDigits ds
int_digits [] i = absurd i
int_digits (d ∷ []) i = (i, tt)
int_digits (d ∷ e ∷ ds) i = (i.0, i.2)

-- a number without its sign
unsigned_spells : (text int rest : List ℕ) (n : Numeral) → int ++ rest ≡ text → AreDigits int → is_digit (head_of rest) ≡ false → SpellsUnsigned text n → (n.int ≡ int) × SpellsBehindInt rest n.fraction n.exponent
unsigned_spells text int rest n j a h p =
    let same = digits_same n.int int (fraction_bytes n.fraction ++ exponent_bytes n.exponent) rest (int_digits n.int p.correct.int) a (fraction_head n.fraction n.exponent) h (p.spelled ∙ sym j) in
    (same.0, record { digits = p.correct.fraction; correct = p.correct.exponent; spelled = same.1 })

pub unsigned_refused : (fault : NumberFault) (text int rest : List ℕ) → int ++ rest ≡ text → AreDigits int → is_digit (head_of rest) ≡ false → IsInt int → RefusesBehindInt rest fault → RefusesUnsigned text fault
unsigned_refused Shape text int rest j a h i r = λ n p. r n.fraction n.exponent (unsigned_spells text int rest n j a h p).1
unsigned_refused TooLong text int rest j a h i r = (
  record { negative = false; int = int; fraction = r.0; exponent = r.1 },
  record { correct = record { int = i; fraction = r.2.digits; exponent = r.2.correct }; spelled = ap (λ xs. int ++ xs) r.2.spelled ∙ j },
  r.3,
)

int_head : (ds r : List ℕ) → IsInt ds → is_digit (head_of (ds ++ r)) ≡ true
int_head [] r i = absurd i
int_head (d ∷ []) r i = i
int_head (d ∷ e ∷ ds) r i = i.0

behind_minus : (b : Bool) (bytes rest int tail : List ℕ) → 0x2D ∷ rest ≡ bytes → IsInt int → minus_bytes b ++ (int ++ tail) ≡ bytes → int ++ tail ≡ rest
behind_minus true bytes rest int tail e i p = ap (drop 1) (p ∙ sym e)
behind_minus false bytes rest int tail e i p =
    let h : is_digit 0x2D ≡ true = sym (ap (λ xs. is_digit (head_of xs)) (p ∙ sym e)) ∙ int_head int tail i in cc

without_minus : (b : Bool) (bytes int tail : List ℕ) → head_of bytes ≢ 0x2D → minus_bytes b ++ (int ++ tail) ≡ bytes → int ++ tail ≡ bytes
without_minus true bytes int tail n p = absurd (n (sym (ap head_of p)))
without_minus false bytes int tail n p = p

-- a numeral that the bytes spell is the one that they are read as
spells_only : (bytes : List ℕ) (n : Numeral) → IsNumeral n → numeral_bytes n ≡ bytes → SpellsNumeral bytes n
spells_only bytes n i e = record { correct = i; spelled = e; only = ap numeral_of (sym e) ∙ parts_read n i }

abbrev with_minus : Bool → Numeral → Numeral
with_minus negative n = record { negative = negative; int = n.int; fraction = n.fraction; exponent = n.exponent }

still_numeral : (negative : Bool) (n : Numeral) → IsNumeral n → IsNumeral (with_minus negative n)
still_numeral negative n i = record { int = i.int; fraction = i.fraction; exponent = i.exponent }

pub signed_is : (negative : Bool) (bytes rest : List ℕ) (m : Magnitude) → minus_bytes negative ++ rest ≡ bytes → MagnitudeIs rest m → ReadsAs bytes (number_of negative m)
signed_is negative bytes rest m e h = record {
  numeral = with_minus negative h.numeral;
  spells = spells_only bytes (with_minus negative h.numeral) (still_numeral negative h.numeral h.spells.correct) (ap (λ xs. minus_bytes negative ++ xs) h.spells.spelled ∙ e);
  short = h.short;
  is_mantissa = ap₂ (λ xs ys. signed negative (digits_value (xs ++ ys))) h.int h.fraction;
  is_scale = ap₂ (λ z (ys : List ℕ). z -ℤ pos (length ys)) h.exponent h.fraction;
}

pub minus_refused : (fault : NumberFault) (bytes rest : List ℕ) → 0x2D ∷ rest ≡ bytes → RefusesUnsigned rest fault → RefusesNumber bytes fault
minus_refused Shape bytes rest e h = λ n i p. h n (record { correct = i; spelled = behind_minus n.negative bytes rest n.int _ e i.int p })
minus_refused TooLong bytes rest e h = record {
  numeral = with_minus true h.0;
  spells = spells_only bytes (with_minus true h.0) (still_numeral true h.0 h.1.correct) (ap (λ (xs : List ℕ). 0x2D ∷ xs) h.1.spelled ∙ e);
  long = h.2;
}

pub plain_refused : (fault : NumberFault) (bytes : List ℕ) → head_of bytes ≢ 0x2D → RefusesUnsigned bytes fault → RefusesNumber bytes fault
plain_refused Shape bytes e h = λ n i p. h n (record { correct = i; spelled = without_minus n.negative bytes n.int _ e p })
plain_refused TooLong bytes e h = record {
  numeral = with_minus false h.0;
  spells = spells_only bytes (with_minus false h.0) (still_numeral false h.0 h.1.correct) h.1.spelled;
  long = h.2;
}

pub not_empty : (b : Bool) (n : ℕ) → b ≡ (n == 0) → b ≡ false → 0 < n
not_empty b n e f = grind (arith, nat_tests)
