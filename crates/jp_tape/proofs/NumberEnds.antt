-- Where a number ends: at the first byte with which no number goes on.
use Rattle.std.proofs.Common.{◌≡◌, ℕ, zero, suc, ◌+◌, ◌-◌, ◌<◌, ◌≤◌, ◌==◌, inl, inr, Bool, true, false, cond, List, [], ◌∷◌, ◌++◌, length, drop, get_or, get_or-take, get_or-drop, sym, ◌∙◌, ap, refl, arith, Option, Some, None, le_antisymm, ℤ}
use Rattle.std.specs.Bool.{⊤}
use Rattle.std.proofs.lemmas.Bool.{cases_lt, cases_Bool, eqb-true}
use Rattle.jp_model.specs.Characters.{is_digit}
use Rattle.jp_model.specs.Json.Places.{byte_at, bytes_between}
use Rattle.jp_model.specs.Json.Numbers.{Numeral, Exponent, Sign, no_sign, plus_sign, minus_sign, AreDigits, IsInt, IsNumeral, IsExponent, minus_bytes, fraction_bytes, sign_bytes, exponent_bytes, numeral_bytes, numeral_of, is_long_exponent, SpellsNumber, mantissa, scale}
use Rattle.jp_model.proofs.Reader.Lexical.{clash, reads_end}
use Rattle.jp_model.proofs.Reader.Numbers.{digit_in_number, int_digits, some_digits, parts_read}
use Rattle.jp_tape.specs.Places.{in_number, Ended}

pub byte_between : (line : List ℕ) (s e k : ℕ) → k < e - s → byte_at (bytes_between line s e) k ≡ byte_at line (s + k)
byte_between line s e k l = get_or-take (e - s) (drop s line) k 0 l ∙ get_or-drop s line k 0

-- all are bytes of a number
abbrev AreIn : List ℕ → Type 0
AreIn [] = ⊤
AreIn (b ∷ bytes) = (in_number b ≡ true) × AreIn bytes

in-append : (xs ys : List ℕ) → AreIn xs → AreIn ys → AreIn (xs ++ ys)
in-append [] ys a b = b
in-append (x ∷ xs) ys a b = (a.0, in-append xs ys a.1 b)

in-at : (bytes : List ℕ) (k : ℕ) → AreIn bytes → k < length bytes → in_number (get_or bytes k 0) ≡ true
in-at [] k a l = absurd (omega (arith, l))
in-at (b ∷ bytes) zero a l = a.0
in-at (b ∷ bytes) (suc k) a l = in-at bytes k a.1 (omega (arith, l))

digits-in : (ds : List ℕ) → AreDigits ds → AreIn ds
digits-in [] a = tt
digits-in (d ∷ ds) a = (digit_in_number d a.0, digits-in ds a.1)

minus-in : (negative : Bool) → AreIn (minus_bytes negative)
minus-in true = (refl, tt)
minus-in false = tt

fraction-in : (ds : List ℕ) → AreDigits ds → AreIn (fraction_bytes ds)
fraction-in [] a = tt
fraction-in (d ∷ ds) a = (refl, digits-in (d ∷ ds) a)

sign-in : (s : Sign) → AreIn (sign_bytes s)
sign-in no_sign = tt
sign-in plus_sign = (refl, tt)
sign-in minus_sign = (refl, tt)

letter-in : (capital : Bool) → in_number (cond capital 0x45 0x65) ≡ true
letter-in true = refl
letter-in false = refl

exponent-in : (e : Option Exponent) → IsExponent e → AreIn (exponent_bytes e)
exponent-in None a = tt
exponent-in (Some e) a = (letter-in e.capital, in-append (sign_bytes e.sign) e.digits (sign-in e.sign) (digits-in e.digits (some_digits e.digits a)))

numeral-in : (n : Numeral) → IsNumeral n → AreIn (numeral_bytes n)
numeral-in n c =
    in-append (minus_bytes n.negative) _ (minus-in n.negative)
    (in-append n.int _ (digits-in n.int (int_digits n.int c.int)) (in-append (fraction_bytes n.fraction) (exponent_bytes n.exponent) (fraction-in n.fraction c.fraction) (exponent-in n.exponent c.exponent)))

pub inside : (line : List ℕ) (from to k : ℕ) (m e : ℤ) → SpellsNumber line from to m e → from ≤ k → k < to → in_number (byte_at line k) ≡ true
inside line from to k m e s a b =
    let bytes = numeral_bytes s.numeral in
    let l : to ≡ from + length bytes = reads_end line from to bytes s.bytes in
    let there : byte_at (bytes_between line from to) (k - from) ≡ byte_at line k = byte_between line from to (k - from) (omega (arith, a, b)) ∙ ap (byte_at line) (omega (arith, a)) in
    ap in_number (sym there ∙ ap (λ (xs : List ℕ). get_or xs (k - from) 0) s.bytes.are) ∙ in-at bytes (k - from) (numeral-in s.numeral s.correct) (omega (arith, l, a, b))

-- a number that ends ends where the bytes of numbers do
pub number_ends : (line : List ℕ) (from to j : ℕ) (m e : ℤ) → from ≤ to → ((k : ℕ) → from ≤ k → k < to → in_number (byte_at line k) ≡ true) → Ended line to → SpellsNumber line from j m e → Ended line j → j ≡ to
number_ends line from to j m e o run end s d =
    let r = s.bytes.order in
    le_antisymm (elim (cases_lt to j) [ inl lt ↦ absurd (clash _ (inside line from j to m e s o lt) end) | inr le ↦ le ]) (elim (cases_lt j to) [ inl lt ↦ absurd (clash _ (run j r lt) d) | inr le ↦ le ])

-- the bytes there are a number
pub number_there : (line : List ℕ) (from to : ℕ) (b : Bool) (n : Numeral) → from ≤ to → to ≤ length line → Ended line to → IsNumeral n → numeral_bytes n ≡ bytes_between line from to → is_long_exponent n ≡ b →
    (m e : ℤ) × SpellsNumber line from to m e × Ended line to × (is_long_exponent (numeral_of (bytes_between line from to)) ≡ b)
number_there line from to b n o w d c h l = (
  mantissa n,
  scale n,
  record { numeral = n; correct = c; bytes = record { order = o; within = w; are = sym h }; is_mantissa = refl; is_scale = refl },
  d,
  ap is_long_exponent (ap numeral_of (sym h) ∙ parts_read n c) ∙ l,
)

-- ---- digits

zero_alone : (d : ℕ) (rest : ℕ) → (d ≡ 0x30 → rest + 2 ≡ 1) → (d == 0x30) ≡ false
zero_alone d rest z = elim (cases_Bool (d == 0x30)) [ inl t ↦ absurd (omega (arith, z (eqb-true d 0x30 t))) | inr f ↦ f ]

pub all_digits : (ds : List ℕ) → ((k : ℕ) → k < length ds → is_digit (get_or ds k 0) ≡ true) → AreDigits ds
all_digits [] h = tt
all_digits (d ∷ ds) h = (h 0 (omega arith), all_digits ds (λ k l. h (suc k) (omega (arith, l))))

pub int_of : (ds : List ℕ) → 0 < length ds → AreDigits ds → (get_or ds 0 0 ≡ 0x30 → length ds ≡ 1) → IsInt ds
int_of [] l a z = absurd (omega (arith, l))
int_of (d ∷ []) l a z = a.0
int_of (d ∷ e ∷ ds) l a z = (a.0, zero_alone d (length ds) (λ h. omega (arith, z h)), a.1)
