-- The canonical text of a number spells a number of the same value.
use Rattle.std.proofs.Common.{◌≡◌, ℕ, zero, suc, ◌+◌, ◌-◌, ◌*◌, ◌^◌, ◌<◌, ◌≤ℤ◌, ◌<ℤ◌, Bool, true, false, cond, ◌&&◌, ◌==◌, nat_lt, nat_abs, List, [], ◌∷◌, ◌++◌, length, take, drop, get_or, Some, None, refl, sym, ap, subst, ◌∙◌, ℤ, pos, negsuc, ◌+ℤ◌, ◌-ℤ◌, ◌*ℤ◌, arith, append-nil, append_assoc, length-drop}
use Rattle.std.specs.Prelude.{int_lt, int_le}
use Rattle.std.specs.Cmp.{IsTotalOrder}
use Rattle.std.proofs.lemmas.Bool.{cond_both, eqb-false, eqb-true, le-ltb, ne_eqb, and_parts}
use Rattle.std.proofs.lemmas.Int.{ints}
use Rattle.std.proofs.lemmas.List.{length-append, length-replicate, take-append-drop}
use Rattle.jp_canon.proofs.Numbers.{value_with_zeros}
use Rattle.jp_canon.specs.Layout.{whole_text, zeros, without_trailing_zeros, exponent_text, with_point, size_text, number_text}
use Rattle.jp_decimal.specs.Values.{order}
use Rattle.jp_model.specs.Characters.{digits_value}
use Rattle.jp_model.specs.Json.Numbers.{AreDigits, AreSomeDigits, IsInt, plus_sign, minus_sign, is_minus, sign_bytes, Exponent, exponent_value, Numeral, IsNumeral, minus_bytes, fraction_bytes, numeral_bytes, signed, mantissa, scale, without_leading_zeros, is_long_exponent, number_equal}
use Rattle.jp_laws.specs.Powers.{HasShortPower}
use Rattle.jp_laws.proofs.CanonicalDigits.{zeros_value, digits_append, zeros_digits, value_behind_zeros, trimmed}
use Rattle.jp_laws.proofs.DigitTexts.{Spelt, spelt, short_digits, spelt_some}
use Rattle.jp_laws.proofs.Exponents.{counted_digits, its_sign}
use Rattle.jp_laws.proofs.NumberOrder.{number_back, numbers_same}
use Rattle.jp_laws.proofs.OrderedValues.{with_zeros}

-- digits that begin with none that is a zero, and how far before the point
pub record IsSize (s : List ℕ) : Type 0 where
  pub digits : AreDigits s
  pub some : 0 < length s
  pub first : 48 < get_or s 0 0

-- a numeral that is spelled so, and how its value comes from the digits
pub record Laid (negative : Bool) (s : List ℕ) (n : ℤ) (text : List ℕ) : Type 0 where
  pub numeral : Numeral
  pub correct : IsNumeral numeral
  pub bytes : numeral_bytes numeral ≡ minus_bytes negative ++ text
  pub count : ℕ
  pub is_mantissa : mantissa numeral ≡ signed negative (digits_value s * 10 ^ count)
  pub is_scale : scale numeral ≡ (n -ℤ pos (length s)) -ℤ pos count
  pub short : nat_abs (n -ℤ pos 1) < 10 ^ 15 → is_long_exponent numeral ≡ false

-- ---- parts of digits

int_of : (ds : List ℕ) → AreDigits ds → 0 < length ds → 48 < get_or ds 0 0 → IsInt ds
int_of [] a l f = absurd (omega arith)
int_of (d ∷ []) a l f = a.0
int_of (d ∷ e ∷ ds) a l f = (a.0, ne_eqb d 0x30 (λ (z : d ≡ 0x30). omega arith), a.1)

take_digits : (k : ℕ) (ds : List ℕ) → AreDigits ds → AreDigits (take k ds)
take_digits zero ds a = tt
take_digits (suc k) [] a = tt
take_digits (suc k) (d ∷ ds) a = (a.0, take_digits k ds a.1)

drop_digits : (k : ℕ) (ds : List ℕ) → AreDigits ds → AreDigits (drop k ds)
drop_digits zero ds a = a
drop_digits (suc k) [] a = tt
drop_digits (suc k) (d ∷ ds) a = drop_digits k ds a.1

int_of_front : (k : ℕ) (s : List ℕ) → 0 < k → IsSize s → IsInt (take k s)
int_of_front zero s l h = absurd (omega arith)
int_of_front (suc k) [] l h = let g = h.some in absurd (omega arith)
int_of_front (suc k) (d ∷ ds) l h = int_of (d ∷ take k ds) (take_digits (suc k) (d ∷ ds) h.digits) (omega arith) h.first

int_with_zeros : (s : List ℕ) (z : ℕ) → IsSize s → IsInt (s ++ zeros z)
int_with_zeros [] z h = let g = h.some in absurd (omega arith)
int_with_zeros (d ∷ ds) z h = int_of (d ∷ (ds ++ zeros z)) (digits_append (d ∷ ds) (zeros z) h.digits (zeros_digits z)) (omega arith) h.first

some_fraction : (ds : List ℕ) → 0 < length ds → fraction_bytes ds ≡ 0x2E ∷ ds
some_fraction [] h = absurd (omega arith)
some_fraction (d ∷ ds) h = refl

-- ---- the exponent

abbrev exponent_of : ℤ → Exponent
exponent_of e = record { capital = false; sign = cond (int_lt e (pos 0)) minus_sign plus_sign; digits = whole_text (nat_abs e) }

exponent_said : (e : ℤ) → sign_bytes (exponent_of e).sign ++ (exponent_of e).digits ≡ exponent_text e
exponent_said e = step (int_lt e (pos 0))
  where
    step : (b : Bool) → sign_bytes (cond b minus_sign plus_sign) ++ whole_text (nat_abs e) ≡ cond b 0x2D 0x2B ∷ whole_text (nat_abs e)
    step true = refl
    step false = refl

exponent_stands : (e : ℤ) → exponent_value (Some (exponent_of e)) ≡ e
exponent_stands e = ap (signed (is_minus (cond (int_lt e (pos 0)) minus_sign plus_sign))) (spelt (nat_abs e)).value ∙ step (int_lt e (pos 0)) refl
  where
    step : (b : Bool) → int_lt e (pos 0) ≡ b → signed (is_minus (cond b minus_sign plus_sign)) (nat_abs e) ≡ e
    step true h = grind (arith, ints, h)
    step false h = grind (arith, ints, h)

exponent_digits : (e : ℤ) → AreSomeDigits (exponent_of e).digits
exponent_digits e = spelt_some (nat_abs e) _ (spelt (nat_abs e))

exponent_short : (e : ℤ) → nat_abs e < 10 ^ 15 → nat_lt 15 (length (without_leading_zeros (exponent_of e).digits)) ≡ false
exponent_short e h = le-ltb 15 _ (let a = counted_digits (whole_text (nat_abs e)) in let b = short_digits (nat_abs e) h in omega arith)

-- ---- the layouts

module _ (negative : Bool) (s : List ℕ) (n : ℤ) (h : IsSize s) where
  whole_laid : pos (length s) ≤ℤ n → Laid negative s n (s ++ zeros (nat_abs n - length s))
  whole_laid l =
      let z : ℕ = nat_abs n - length s in
      record {
        numeral = record { negative = negative; int = s ++ zeros z; fraction = []; exponent = None };
        correct = record { int = int_with_zeros s z h; fraction = tt; exponent = tt };
        bytes = ap (λ (t : List ℕ). minus_bytes negative ++ t) (append-nil (s ++ zeros z));
        count = z;
        is_mantissa = ap (λ (t : List ℕ). signed negative (digits_value t)) (append-nil (s ++ zeros z)) ∙ ap (signed negative) (value_with_zeros s z);
        is_scale = omega (arith, ints, l);
        short = λ _. refl;
      }

  inner_laid : pos 0 <ℤ n → n <ℤ pos (length s) → Laid negative s n (take (nat_abs n) s ++ 0x2E ∷ drop (nat_abs n) s)
  inner_laid l r =
      let k : ℕ = nat_abs n in
      let d = length-drop k s in
      record {
        numeral = record { negative = negative; int = take k s; fraction = drop k s; exponent = None };
        correct = record { int = int_of_front k s (omega (arith, ints, l)) h; fraction = drop_digits k s h.digits; exponent = tt };
        bytes = ap (λ (t : List ℕ). minus_bytes negative ++ (take k s ++ t)) (append-nil (fraction_bytes (drop k s)) ∙ some_fraction (drop k s) (omega (arith, ints, l, r, d)));
        count = 0;
        is_mantissa = ap (λ (t : List ℕ). signed negative (digits_value t)) (take-append-drop k s) ∙ ap (signed negative) (let e : digits_value s ≡ digits_value s * 10 ^ 0 = omega arith in e);
        is_scale = omega (arith, ints, l, r, d);
        short = λ _. refl;
      }

  front_laid : n ≤ℤ pos 0 → Laid negative s n (0x30 ∷ 0x2E ∷ zeros (nat_abs n) ++ s)
  front_laid l =
      let k : ℕ = nat_abs n in
      let a = length-append (zeros k) s in
      let b = length-replicate {A = ℕ} k 0x30 in
      let some = h.some in
      record {
        numeral = record { negative = negative; int = 0x30 ∷ []; fraction = zeros k ++ s; exponent = None };
        correct = record { int = refl; fraction = digits_append (zeros k) s (zeros_digits k) h.digits; exponent = tt };
        bytes = ap (λ (t : List ℕ). minus_bytes negative ++ (0x30 ∷ t)) (append-nil (fraction_bytes (zeros k ++ s)) ∙ some_fraction (zeros k ++ s) (omega arith));
        count = 0;
        is_mantissa = ap (signed negative) (value_behind_zeros k s ∙ (let e : digits_value s ≡ digits_value s * 10 ^ 0 = omega arith in e));
        is_scale = omega (arith, ints, l, a, b);
        short = λ _. refl;
      }

  raised_laid : Laid negative s n (take 1 s ++ fraction_bytes (drop 1 s) ++ 0x65 ∷ exponent_text (n -ℤ pos 1))
  raised_laid =
      let e : ℤ = n -ℤ pos 1 in
      let d = length-drop 1 s in
      record {
        numeral = record { negative = negative; int = take 1 s; fraction = drop 1 s; exponent = Some (exponent_of e) };
        correct = record { int = int_of_front 1 s (omega arith) h; fraction = drop_digits 1 s h.digits; exponent = exponent_digits e };
        bytes = ap (λ (t : List ℕ). minus_bytes negative ++ t) (ap (λ (t : List ℕ). take 1 s ++ (fraction_bytes (drop 1 s) ++ 0x65 ∷ t)) (exponent_said e) ∙ sym (append_assoc (take 1 s) (fraction_bytes (drop 1 s)) (0x65 ∷ exponent_text e)));
        count = 0;
        is_mantissa = ap (λ (t : List ℕ). signed negative (digits_value t)) (take-append-drop 1 s) ∙ ap (signed negative) (let e : digits_value s ≡ digits_value s * 10 ^ 0 = omega arith in e);
        is_scale = let v = exponent_stands e in let some = h.some in omega (arith, ints, v, d);
        short = exponent_short e;
      }

  in_order : int_le (pos (length s)) n && int_le n (pos 21) ≡ true → pos (length s) ≤ℤ n
  in_order e = let p = (and_parts (int_le (pos (length s)) n) (int_le n (pos 21)) e).0 in grind (arith, ints, p)

  at_front : int_lt (negsuc 5) n && int_le n (pos 0) ≡ true → n ≤ℤ pos 0
  at_front e = let p = (and_parts (int_lt (negsuc 5) n) (int_le n (pos 0)) e).1 in grind (arith, ints, p)

  begun : int_lt (pos 0) n && int_le n (pos 21) ≡ true → pos 0 <ℤ n
  begun e = let p = (and_parts (int_lt (pos 0) n) (int_le n (pos 21)) e).0 in grind (arith, ints, p)

  not_ended : int_le (pos (length s)) n && int_le n (pos 21) ≡ false → int_lt (pos 0) n && int_le n (pos 21) ≡ true → n <ℤ pos (length s)
  not_ended f e = let p = first_false (int_le (pos (length s)) n) (int_le n (pos 21)) f (and_parts (int_lt (pos 0) n) (int_le n (pos 21)) e).1 in grind (arith, ints, p)
    where
      first_false : (a b : Bool) → a && b ≡ false → b ≡ true → a ≡ false
      first_false true b g k = absurd (cc)
      first_false false b g k = refl

  laid : Laid negative s n (with_point s n)
  laid =
      cond_both (int_le (pos (length s)) n && int_le n (pos 21)) _ _ (Laid negative s n) (λ e. whole_laid (in_order e))
      (λ f.
      cond_both (int_lt (pos 0) n && int_le n (pos 21)) _ _ (Laid negative s n) (λ e. inner_laid (begun e) (not_ended f e))
      (λ _. cond_both (int_lt (negsuc 5) n && int_le n (pos 0)) _ _ (Laid negative s n) (λ e. front_laid (at_front e)) (λ _. raised_laid)))

-- ---- a size

digits_in_front : (xs ys : List ℕ) → AreDigits (xs ++ ys) → AreDigits xs
digits_in_front [] ys a = tt
digits_in_front (x ∷ xs) ys a = (a.0, digits_in_front xs ys a.1)

trimmed_size : (m : ℕ) (ds s : List ℕ) (z : ℕ) → 0 < m → Spelt m ds → ds ≡ s ++ zeros z → IsSize s
trimmed_size m ds [] z l h e = let v = h.value in let w = ap digits_value e ∙ zeros_value z in absurd (omega arith)
trimmed_size m ds (d ∷ s) z l h e =
    record { digits = digits_in_front (d ∷ s) (zeros z) (subst AreDigits e h.digits); some = omega arith; first = subst (λ (l : List ℕ). 48 < get_or l 0 0) e (h.first l) }

-- a numeral that is spelled so, and how its value and the number's come from one
pub record Said (m e : ℤ) (text : List ℕ) : Type 0 where
  pub numeral : Numeral
  pub correct : IsNumeral numeral
  pub bytes : numeral_bytes numeral ≡ text
  pub base : ℤ
  pub point : ℤ
  pub behind : ℕ
  pub more : ℕ
  pub is_m : m ≡ base *ℤ pos (10 ^ behind)
  pub is_e : e ≡ point -ℤ pos behind
  pub is_mantissa : mantissa numeral ≡ base *ℤ pos (10 ^ more)
  pub is_scale : scale numeral ≡ point -ℤ pos more
  pub short : HasShortPower m e → is_long_exponent numeral ≡ false

signed_product : (negative : Bool) (v p : ℕ) → signed negative (v * p) ≡ signed negative v *ℤ pos p
signed_product true v p = grind (arith, ints)
signed_product false v p = grind (arith, ints)

size_said : (m e : ℤ) (negative : Bool) → m ≡ signed negative (nat_abs m) → 0 < nat_abs m → Said m e (minus_bytes negative ++ size_text (nat_abs m) e)
size_said m e negative sign some =
    let ds : List ℕ = whole_text (nat_abs m) in
    let s : List ℕ = without_trailing_zeros ds in
    let whole = spelt (nat_abs m) in
    let t = trimmed ds in
    let l = laid negative s (pos (length ds) +ℤ e) (trimmed_size (nat_abs m) ds s t.count some whole t.is) in
    let count : length ds ≡ length s + t.count = ap length t.is ∙ (length-append s (zeros t.count) ∙ ap (λ n. length s + n) (length-replicate {A = ℕ} t.count 0x30)) in
    let value : nat_abs m ≡ digits_value s * 10 ^ t.count = sym whole.value ∙ (ap digits_value t.is ∙ value_with_zeros s t.count) in
    record {
      numeral = l.numeral;
      correct = l.correct;
      bytes = l.bytes;
      base = signed negative (digits_value s);
      point = (pos (length ds) +ℤ e) -ℤ pos (length s);
      behind = t.count;
      more = l.count;
      is_m = sign ∙ (ap (signed negative) value ∙ signed_product negative (digits_value s) (10 ^ t.count));
      is_e = omega (arith, ints, count);
      is_mantissa = l.is_mantissa ∙ signed_product negative (digits_value s) (10 ^ l.count);
      is_scale = l.is_scale;
      short = λ q. l.short (q some);
    }

none_said : (m e : ℤ) → nat_abs m ≡ 0 → Said m e (0x30 ∷ [])
none_said m e h =
    let point : ℕ = nat_abs e in
    let behind : ℕ = nat_abs (pos point -ℤ e) in
    record {
      numeral = record { negative = false; int = 0x30 ∷ []; fraction = []; exponent = None };
      correct = record { int = refl; fraction = tt; exponent = tt };
      bytes = refl;
      base = pos 0;
      point = pos point;
      behind = behind;
      more = point;
      is_m = zero_product (10 ^ behind) h;
      is_e = omega (arith, ints);
      is_mantissa = none_product (10 ^ point);
      is_scale = let z : pos 0 ≡ pos point -ℤ pos point = omega (arith, ints) in z;
      short = λ _. refl;
    }
  where
    none_product : (p : ℕ) → pos 0 ≡ pos 0 *ℤ pos p
    none_product p = omega (arith, ints)

    zero_product : (p : ℕ) → nat_abs m ≡ 0 → m ≡ pos 0 *ℤ pos p
    zero_product p z = let e : m ≡ pos 0 = omega (arith, ints, z) in e ∙ none_product p

pub said : (m e : ℤ) → Said m e (number_text m e)
said m e =
    cond_both (nat_abs m == 0) _ _ (Said m e) (λ h. none_said m e (eqb-true (nat_abs m) 0 h))
    (λ h.
    let some : 0 < nat_abs m = let n = eqb-false (nat_abs m) 0 h in omega arith in
    cond_both (int_lt m (pos 0)) _ _ (Said m e) (λ g. size_said m e true (its_sign m true g) some) (λ g. size_said m e false (its_sign m false g) some))

-- ---- it is equal

module _ (order_total : IsTotalOrder order) where
  pub said_equal : (m e : ℤ) → number_equal m e (mantissa (said m e).numeral) (scale (said m e).numeral) ≡ true
  said_equal m e =
      let s = said m e in
      let a : number_equal s.base s.point m e ≡ true = subst (λ x. number_equal s.base s.point x e ≡ true) (sym s.is_m) (subst (λ x. number_equal s.base s.point (s.base *ℤ pos (10 ^ s.behind)) x ≡ true) (sym s.is_e) (with_zeros order_total s.base s.point s.behind)) in
      let b : number_equal s.base s.point (mantissa s.numeral) (scale s.numeral) ≡ true = subst (λ x. number_equal s.base s.point x (scale s.numeral) ≡ true) (sym s.is_mantissa) (subst (λ x. number_equal s.base s.point (s.base *ℤ pos (10 ^ s.more)) x ≡ true) (sym s.is_scale) (with_zeros order_total s.base s.point s.more)) in
      numbers_same order_total m e s.base s.point (mantissa s.numeral) (scale s.numeral) (number_back order_total s.base s.point m e a) b
