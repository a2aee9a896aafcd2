-- The spelling of a number that can be read is ASCII.
use Rattle.std.proofs.Common.{◌≡◌, ℕ, ◌<◌, List, [], ◌∷◌, ◌++◌, Bool, true, false, cond, Option, Some, None, subst, arith, encode_utf8_all}
use Rattle.std.specs.List.{list_all}
use Rattle.std.specs.Str.{IsAscii}
use Rattle.std.proofs.lemmas.Bool.{and_parts}
use Rattle.std.proofs.lemmas.Bool.Decides.{nat_tests}
use Rattle.std.proofs.lemmas.Str.{IsAscii-append, encodes-IsAscii}
use Rattle.std.proofs.lemmas.Str.Ascii.{IsAscii-nil, IsAscii-cons}
use Rattle.jp_model.specs.Characters.{is_digit}
use Rattle.jp_model.specs.Json.Numbers.{Numeral, Exponent, Sign, no_sign, plus_sign, minus_sign, minus_bytes, fraction_bytes, sign_bytes, exponent_bytes, numeral_bytes, numeral_of}
use Rattle.jp_model.specs.Json.Reader.{is_int, is_exponent, is_numeral}
use Rattle.jp_model.specs.Query.Syntax.{number_literal}
use Rattle.jp_model.proofs.Seek.{text_same}
use Rattle.jp_syntax.specs.Sound.{is_sound}

digit_ascii : (d : ℕ) → is_digit d ≡ true → d < 128
digit_ascii d h = grind (arith, nat_tests)

digits_ascii : (ds : List ℕ) → list_all is_digit ds ≡ true → IsAscii ds
digits_ascii [] h = IsAscii-nil
digits_ascii (d ∷ ds) h =
    let p = and_parts _ _ h in
    IsAscii-cons d ds (digit_ascii d p.0) (digits_ascii ds p.1)

int_ascii : (ds : List ℕ) → is_int ds ≡ true → IsAscii ds
int_ascii [] h = absurd (cc)
int_ascii (d ∷ []) h = IsAscii-cons d [] (digit_ascii d h) IsAscii-nil
int_ascii (d ∷ e ∷ ds) h =
    let p = and_parts _ _ h in
    IsAscii-cons d (e ∷ ds) (digit_ascii d p.0) (digits_ascii (e ∷ ds) (and_parts _ _ p.1).1)

minus_ascii : (b : Bool) → IsAscii (minus_bytes b)
minus_ascii true = IsAscii-cons 0x2D [] (omega arith) IsAscii-nil
minus_ascii false = IsAscii-nil

fraction_ascii : (ds : List ℕ) → list_all is_digit ds ≡ true → IsAscii (fraction_bytes ds)
fraction_ascii [] h = IsAscii-nil
fraction_ascii (d ∷ ds) h = IsAscii-cons 0x2E (d ∷ ds) (omega arith) (digits_ascii (d ∷ ds) h)

sign_ascii : (s : Sign) → IsAscii (sign_bytes s)
sign_ascii no_sign = IsAscii-nil
sign_ascii plus_sign = IsAscii-cons 0x2B [] (omega arith) IsAscii-nil
sign_ascii minus_sign = IsAscii-cons 0x2D [] (omega arith) IsAscii-nil

letter_ascii : (b : Bool) → cond b 0x45 0x65 < 128
letter_ascii true = omega arith
letter_ascii false = omega arith

exponent_ascii : (o : Option Exponent) → is_exponent o ≡ true → IsAscii (exponent_bytes o)
exponent_ascii None h = IsAscii-nil
exponent_ascii (Some e) h =
    IsAscii-cons (cond e.capital 0x45 0x65) (sign_bytes e.sign ++ e.digits) (letter_ascii e.capital)
    (IsAscii-append (sign_bytes e.sign) e.digits (sign_ascii e.sign) (digits_ascii e.digits (and_parts _ _ h).1))

numeral_ascii : (n : Numeral) → is_numeral n ≡ true → IsAscii (numeral_bytes n)
numeral_ascii n h =
    let p = and_parts _ _ h in
    let q = and_parts _ _ p.1 in
    IsAscii-append (minus_bytes n.negative) (n.int ++ (fraction_bytes n.fraction ++ exponent_bytes n.exponent)) (minus_ascii n.negative)
    (IsAscii-append n.int (fraction_bytes n.fraction ++ exponent_bytes n.exponent) (int_ascii n.int p.0)
    (IsAscii-append (fraction_bytes n.fraction) (exponent_bytes n.exponent) (fraction_ascii n.fraction q.0) (exponent_ascii n.exponent q.1)))

-- so its scalars are its bytes
pub number_encoded : (x : List ℕ) → is_sound (number_literal x) ≡ true → encode_utf8_all x ≡ x
number_encoded x h =
    let p = and_parts _ _ (and_parts _ _ h).0 in
    let same : numeral_bytes (numeral_of x) ≡ x = text_same (numeral_bytes (numeral_of x)) x p.0 in
    encodes-IsAscii x (subst IsAscii same (numeral_ascii (numeral_of x) (and_parts _ _ p.1).0))
