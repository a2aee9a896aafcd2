-- The bytes of a number are those that the grammar spells.
use Rattle.std.proofs.Common.{arith, ◌≡◌, ◌≤◌, [], ◌∷◌, ℕ, List, true, false, length, refl, sym, subst, Option, Some, None}
use Rattle.std.specs.Prelude.{◌↔◌, ◌&&◌, bytes_eq}
use Rattle.std.specs.List.{list_all}
use Rattle.std.proofs.lemmas.Bool.{and_from, and_parts, le-leb, leb-true, not-true, not_from_false}
use Rattle.std.proofs.lemmas.Slice.Eq.{bytes_eq-Decides}
use Rattle.jp_model.specs.Characters.{is_digit}
use Rattle.jp_model.specs.Json.Numbers.{AreSomeDigits, Exponent, IsExponent, IsInt, IsNumeral, Numeral, no_sign, numeral_bytes, numeral_of}
use Rattle.jp_model.specs.Json.Reader.{is_exponent, is_int, is_numeral}
use Rattle.jp_model.proofs.Reader.Numbers.{digits_found, digits_whole, parts_read}
use Rattle.jp_table.specs.Literals.{IsSpelled, is_number}

int_is : (ds : List ℕ) → is_int ds ≡ true → IsInt ds
int_is [] h = absurd (cc)
int_is (d ∷ []) h = h
int_is (d ∷ e ∷ ds) h =
    let p = and_parts _ _ h in
    let q = and_parts _ _ p.1 in
    (p.0, not-true _ q.0, digits_found (e ∷ ds) q.1)

int_passes : (ds : List ℕ) → IsInt ds → is_int ds ≡ true
int_passes [] h = absurd h
int_passes (d ∷ []) h = h
int_passes (d ∷ e ∷ ds) h = and_from _ _ h.0 (and_from _ _ (not_from_false _ h.1) (digits_whole (e ∷ ds) h.2))

some_are : (ds : List ℕ) → list_all is_digit ds ≡ true → 1 ≤ length ds → AreSomeDigits ds
some_are [] h l = absurd (omega (arith, l))
some_are (d ∷ ds) h l = digits_found (d ∷ ds) h

exponent_is : (e : Option Exponent) → is_exponent e ≡ true → IsExponent e
exponent_is None h = tt
exponent_is (Some e) h = let p = and_parts _ _ h in some_are e.digits p.1 (leb-true _ _ p.0)

some_pass : (ds : List ℕ) → AreSomeDigits ds → is_exponent (Some (record { capital = false; sign = no_sign; digits = ds })) ≡ true
some_pass [] h = absurd h
some_pass (d ∷ ds) h = and_from _ _ (le-leb 1 (length (d ∷ ds)) (omega arith)) (digits_whole (d ∷ ds) h)

exponent_passes : (e : Option Exponent) → IsExponent e → is_exponent e ≡ true
exponent_passes None h = refl
exponent_passes (Some e) h = some_pass e.digits h

numeral_is : (n : Numeral) → is_numeral n ≡ true → IsNumeral n
numeral_is n h =
    let p = and_parts _ _ h in
    let q = and_parts _ _ p.1 in
    record { int = int_is n.int p.0; fraction = digits_found n.fraction q.0; exponent = exponent_is n.exponent q.1 }

numeral_passes : (n : Numeral) → IsNumeral n → is_numeral n ≡ true
numeral_passes n h = and_from _ _ (int_passes n.int h.int) (and_from _ _ (digits_whole n.fraction h.fraction) (exponent_passes n.exponent h.exponent))

number_is : (bytes : List ℕ) → is_number bytes ≡ true → IsSpelled bytes
unfolding is_number
number_is bytes h =
    let p = and_parts _ _ h in
    (numeral_of bytes, numeral_is (numeral_of bytes) p.0, (bytes_eq-Decides (numeral_bytes (numeral_of bytes)) bytes).0 p.1)

numeral_number : (n : Numeral) → IsNumeral n → is_number (numeral_bytes n) ≡ true
unfolding is_number
numeral_number n h =
    subst (λ m. (is_numeral m && bytes_eq (numeral_bytes m) (numeral_bytes n)) ≡ true) (sym (parts_read n h))
    (and_from _ _ (numeral_passes n h) ((bytes_eq-Decides (numeral_bytes n) (numeral_bytes n)).1 refl))

pub numbers_are_spelled : (bytes : List ℕ) → (is_number bytes ≡ true) ↔ IsSpelled bytes
numbers_are_spelled bytes = (number_is bytes, λ spelled. subst (λ l. is_number l ≡ true) spelled.2 (numeral_number spelled.0 spelled.1))
