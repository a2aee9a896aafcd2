-- A number that is read part by part.
use Rattle.std.proofs.Common.{inl, inr, ◌≡◌, ◌∙◌, ◌++◌, ◌∷◌, ◌==◌, ◌&&◌, ◌||◌, [], ℕ, List, Bool, true, false, cond, refl, sym, ap, ap₂, subst, arith, append-nil, drop, length, nat_le, Option, Some, None}
use Rattle.std.specs.Prelude.{bytes_eq}
use Rattle.std.specs.List.{list_all}
use Rattle.std.proofs.lemmas.Bool.{and_from, cond-true, ne_eqb}
use Rattle.std.proofs.lemmas.Bool.Decides.{eqb_tells}
use Rattle.jp_model.specs.Characters.{is_digit}
use Rattle.jp_model.specs.Json.Numbers.{Exponent, Sign, no_sign, behind_sign, exponent_bytes, fraction_bytes, head_of, leading_digits, leading_exponent, leading_fraction, leading_sign, minus_bytes, numeral_bytes, numeral_of, sign_bytes}
use Rattle.jp_model.specs.Json.Reader.{is_exponent, is_int}
use Rattle.jp_table.specs.Literals.{is_number}

-- ---- equal fronts do not tell two texts apart

same_byte : (byte : ℕ) → (byte == byte) ≡ true
same_byte byte = elim (eqb_tells byte byte) [ inl e ↦ e.0 | inr n ↦ absurd (n.1 refl) ]

pub same_front : (front a b : List ℕ) → bytes_eq (front ++ a) (front ++ b) ≡ bytes_eq a b
same_front [] a b = refl
same_front (byte ∷ front) a b = ap (λ (same : Bool). same && bytes_eq (front ++ a) (front ++ b)) (same_byte byte) ∙ same_front front a b

-- ---- the parts at the front, and what follows them

pub digits_front : (text : List ℕ) → leading_digits text ++ drop (length (leading_digits text)) text ≡ text
digits_front [] = refl
digits_front (byte ∷ text) = by (is_digit byte) (digits_front text)
  where
    by : (digit : Bool) → leading_digits text ++ drop (length (leading_digits text)) text ≡ text
        → cond digit (byte ∷ leading_digits text) [] ++ drop (length (cond digit (byte ∷ leading_digits text) [])) (byte ∷ text) ≡ byte ∷ text
    by true more = ap (λ l. byte ∷ l) more
    by false more = refl

pub all_digits : (text : List ℕ) → list_all is_digit (leading_digits text) ≡ true
all_digits [] = refl
all_digits (byte ∷ text) = by (is_digit byte) refl (all_digits text)
  where
    by : (digit : Bool) → is_digit byte ≡ digit → list_all is_digit (leading_digits text) ≡ true → list_all is_digit (cond digit (byte ∷ leading_digits text) []) ≡ true
    by true e more = and_from _ _ e more
    by false e more = refl

minus_front : (text : List ℕ) → minus_bytes (head_of text == 0x2D) ++ drop (length (minus_bytes (head_of text == 0x2D))) text ≡ text
minus_front [] = refl
minus_front (byte ∷ text) = elim (eqb_tells byte 0x2D) [
  | inl e ↦ subst (λ b. minus_bytes (b == 0x2D) ++ drop (length (minus_bytes (b == 0x2D))) (b ∷ text) ≡ b ∷ text) (sym e.1) refl
  | inr n ↦ ap (λ negative. minus_bytes negative ++ drop (length (minus_bytes negative)) (byte ∷ text)) n.0
]

point_front : (text : List ℕ) (digits : List ℕ) → digits ++ drop (length digits) text ≡ text
    → fraction_bytes digits ++ drop (length (fraction_bytes digits)) (0x2E ∷ text) ≡ 0x2E ∷ text
point_front text [] e = refl
point_front text (d ∷ digits) e = ap (λ l. 0x2E ∷ l) e

fraction_front : (text : List ℕ) → fraction_bytes (leading_fraction text) ++ drop (length (fraction_bytes (leading_fraction text))) text ≡ text
fraction_front [] = refl
fraction_front (byte ∷ text) = elim (eqb_tells byte 0x2E) [
  | inl e ↦ subst (λ b. fraction_bytes (leading_fraction (b ∷ text)) ++ drop (length (fraction_bytes (leading_fraction (b ∷ text)))) (b ∷ text) ≡ b ∷ text) (sym e.1)
      (point_front text (leading_digits text) (digits_front text))
  | inr n ↦ ap (λ point. fraction_bytes (cond point (leading_digits text) []) ++ drop (length (fraction_bytes (cond point (leading_digits text) []))) (byte ∷ text)) n.0
]

fraction_digits : (text : List ℕ) → list_all is_digit (leading_fraction text) ≡ true
fraction_digits text = by (head_of text == 0x2E)
  where
    by : (point : Bool) → list_all is_digit (cond point (leading_digits (drop 1 text)) []) ≡ true
    by true = all_digits (drop 1 text)
    by false = refl

sign_front : (text : List ℕ) → sign_bytes (leading_sign text) ++ behind_sign (leading_sign text) text ≡ text
sign_front [] = refl
sign_front (byte ∷ text) = elim (eqb_tells byte 0x2B) [
  | inl e ↦ subst (λ b. sign_bytes (leading_sign (b ∷ text)) ++ behind_sign (leading_sign (b ∷ text)) (b ∷ text) ≡ b ∷ text) (sym e.1) refl
  | inr plus ↦ elim (eqb_tells byte 0x2D) [
    | inl e ↦ subst (λ b. sign_bytes (leading_sign (b ∷ text)) ++ behind_sign (leading_sign (b ∷ text)) (b ∷ text) ≡ b ∷ text) (sym e.1) refl
    | inr minus ↦ ap (λ (sign : Sign). sign_bytes sign ++ behind_sign sign (byte ∷ text)) (none plus.0 minus.0)
  ]
]
  where
    none : (byte == 0x2B) ≡ false → (byte == 0x2D) ≡ false → leading_sign (byte ∷ text) ≡ no_sign
    none plus minus = rw (plus, minus) refl

-- ---- a number

both : (a b c : Bool) → ((a && (true && b)) && c) ≡ (a && (b && c))
both true b c = refl
both false b c = refl

-- the bytes are a number where the int is one, and what follows the fraction part is an exponent part or nothing
pub number_parts : (text : List ℕ) →
    let unsigned = drop (length (minus_bytes (head_of text == 0x2D))) text in
    let behind_int = drop (length (leading_digits unsigned)) unsigned in
    let rest = drop (length (fraction_bytes (leading_fraction behind_int))) behind_int in
    is_number text ≡ (is_int (leading_digits unsigned) && (is_exponent (leading_exponent rest) && bytes_eq (exponent_bytes (leading_exponent rest)) rest))
unfolding is_number
number_parts text =
    let negative = head_of text == 0x2D in
    let unsigned = drop (length (minus_bytes negative)) text in
    let int = leading_digits unsigned in
    let behind_int = drop (length int) unsigned in
    let fraction = leading_fraction behind_int in
    let rest = drop (length (fraction_bytes fraction)) behind_int in
    let exponent = leading_exponent rest in
    let end = exponent_bytes exponent in
    let whole : text ≡ minus_bytes negative ++ (int ++ (fraction_bytes fraction ++ rest)) =
    sym (minus_front text)
    ∙ ap (λ l. minus_bytes negative ++ l) (sym (digits_front unsigned) ∙ ap (λ l. int ++ l) (sym (fraction_front behind_int))) in
    ap (λ (digits : Bool). (is_int int && (digits && is_exponent exponent)) && bytes_eq (numeral_bytes (numeral_of text)) text) (fraction_digits behind_int)
    ∙ both (is_int int) (is_exponent exponent) (bytes_eq (numeral_bytes (numeral_of text)) text)
    ∙ ap (λ (same : Bool). is_int int && (is_exponent exponent && same))
    (ap (bytes_eq (minus_bytes negative ++ (int ++ (fraction_bytes fraction ++ end)))) whole
    ∙ same_front (minus_bytes negative) (int ++ (fraction_bytes fraction ++ end)) (int ++ (fraction_bytes fraction ++ rest))
    ∙ same_front int (fraction_bytes fraction ++ end) (fraction_bytes fraction ++ rest)
    ∙ same_front (fraction_bytes fraction) end rest)

-- ---- an exponent part

-- digits are digits to the end where nothing follows them
pub ended : (digits rest : List ℕ) → bytes_eq digits (digits ++ rest) ≡ (length rest == 0)
ended digits rest =
    ap (λ l. bytes_eq l (digits ++ rest)) (sym (append-nil digits)) ∙ same_front digits [] rest ∙ none rest
  where
    none : (rest : List ℕ) → bytes_eq [] rest ≡ (length rest == 0)
    none [] = refl
    none (byte ∷ rest) = sym (ne_eqb (length (byte ∷ rest)) 0 (λ e. omega (arith, e)))

-- after the letter stand a sign and digits, and then the end
letter_parts : (byte : ℕ) (text digits : List ℕ) (sign : Sign) → ((byte == 0x65) || (byte == 0x45)) ≡ true
    → bytes_eq (cond (byte == 0x45) 0x45 0x65 ∷ (sign_bytes sign ++ digits)) (byte ∷ text) ≡ bytes_eq (sign_bytes sign ++ digits) text
letter_parts byte text digits sign letter = elim (eqb_tells byte 0x45) [
  | inl e ↦ subst (λ b. bytes_eq (cond (b == 0x45) 0x45 0x65 ∷ (sign_bytes sign ++ digits)) (b ∷ text) ≡ bytes_eq (sign_bytes sign ++ digits) text) (sym e.1) refl
  | inr capital ↦ elim (eqb_tells byte 0x65) [
    | inl e ↦ subst (λ b. bytes_eq (cond (b == 0x45) 0x45 0x65 ∷ (sign_bytes sign ++ digits)) (b ∷ text) ≡ bytes_eq (sign_bytes sign ++ digits) text) (sym e.1) refl
    | inr small ↦ absurd (apart (sym letter ∙ ap₂ (λ (a b : Bool). a || b) small.0 capital.0))
  ]
]
  where
    apart : true ≡ false → ⊥
    apart e = cc

pub exponent_parts : (text : List ℕ) → ((head_of text == 0x65) || (head_of text == 0x45)) ≡ true →
    let behind = behind_sign (leading_sign (drop 1 text)) (drop 1 text) in
    let digits = leading_digits behind in
    (is_exponent (leading_exponent text) && bytes_eq (exponent_bytes (leading_exponent text)) text) ≡ (nat_le 1 (length digits) && (length (drop (length digits) behind) == 0))
exponent_parts [] letter = absurd (cc)
exponent_parts (byte ∷ text) letter =
    let sign = leading_sign text in
    let behind = behind_sign sign text in
    let digits = leading_digits behind in
    let rest = drop (length digits) behind in
    let some : Exponent = record { capital = byte == 0x45; sign = sign; digits = digits } in
    let whole : text ≡ sign_bytes sign ++ (digits ++ rest) = sym (sign_front text) ∙ ap (λ l. sign_bytes sign ++ l) (sym (digits_front behind)) in
    ap (λ (exponent : Option Exponent). is_exponent exponent && bytes_eq (exponent_bytes exponent) (byte ∷ text)) (cond-true _ (Some some) None letter)
    ∙ ap₂ (λ (a b : Bool). (nat_le 1 (length digits) && a) && b) (all_digits behind) (letter_parts byte text digits sign letter)
    ∙ ap (λ (a : Bool). a && bytes_eq (sign_bytes sign ++ digits) text) (and_true (nat_le 1 (length digits)))
    ∙ ap (λ (a : Bool). nat_le 1 (length digits) && a)
    (ap (bytes_eq (sign_bytes sign ++ digits)) whole ∙ same_front (sign_bytes sign) digits (digits ++ rest) ∙ ended digits rest)
  where
    and_true : (b : Bool) → (b && true) ≡ b
    and_true true = refl
    and_true false = refl
