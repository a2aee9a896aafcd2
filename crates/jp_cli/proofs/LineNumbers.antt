-- The number of a line, digit by digit.
use Rattle.std.proofs.Common.{◌≡◌, ◌∙◌, ◌+◌, ◌-◌, ◌*◌, ◌^◌, ◌<◌, ◌≤◌, ℕ, suc, List, [], ◌∷◌, length, drop, get_or, true, false, not, ◌&&◌, ◌==◌, sym, ap, refl, arith}
use Rattle.std.specs.List.{list_all}
use Rattle.std.specs.Prelude.{slice_index_or, nat_le}
use Rattle.std.proofs.Math.Nat.{pow-le-pow_right, pow-succ'}
use Rattle.std.proofs.lemmas.Bool.{ne_eqb}
use Rattle.std.proofs.lemmas.Bool.Decides.{nat_tests}
use Rattle.std.proofs.lemmas.List.{drop_all, drop_more}
use Rattle.jp_model.specs.Characters.{is_digit, value_behind, digits_value}
use Rattle.jp_model.specs.Script.Commands.{is_line_number}

-- few digits, the first not 0, are a line number where all are digits
pub number_if_digits : (ds : List ℕ) → 1 ≤ length ds → (slice_index_or ds 0 0 ≡ 48 → ⊥) → length ds ≤ 10 → is_line_number ds ≡ list_all is_digit ds
number_if_digits [] l f s = absurd (omega arith)
number_if_digits (c ∷ x) l f s =
    let few : nat_le (length x) 9 ≡ true = grind (arith, nat_tests, s) in
    let other : (c == 0x30) ≡ false = ne_eqb c 0x30 f in
    ap (λ b. b && not (c == 0x30) && list_all is_digit (c ∷ x)) few ∙ ap (λ b. not b && list_all is_digit (c ∷ x)) other

pub a_digit : (c : ℕ) → 48 ≤ c → c ≤ 57 → is_digit c ≡ true
a_digit c l h = grind (arith, nat_tests, l, h)

pow_next : (i : ℕ) → 10 ^ (i + 1) ≡ 10 * 10 ^ i
pow_next i = let e : i + 1 ≡ suc i = omega arith in ap (λ k. 10 ^ k) e ∙ pow-succ' 10 i

-- what is read of some digits: the value so far, and that the digits so far are digits
pub record IsRead (ds : List ℕ) (i value : ℕ) : Type 0 where
  pub value_is : value_behind value (drop i ds) ≡ digits_value ds
  pub are_digits : list_all is_digit (drop i ds) ≡ list_all is_digit ds
  pub low : value < 10 ^ i

pub none_read : (ds : List ℕ) → IsRead ds 0 0
none_read ds = record { value_is = refl; are_digits = refl; low = omega arith }

module _ (ds : List ℕ) (i value : ℕ) (l : i < length ds) (so : IsRead ds i value) where
  next : drop i ds ≡ get_or ds i 0 ∷ drop (i + 1) ds
  next = drop_more ds i 0 l

  -- one digit more
  pub one_more : 48 ≤ get_or ds i 0 → get_or ds i 0 ≤ 57 → IsRead ds (i + 1) (value * 10 + (get_or ds i 0 - 48))
  one_more low high =
      let digit = a_digit (get_or ds i 0) low high in
      let p = pow_next i in
      let v = so.low in
      record {
        value_is = sym (ap (value_behind value) next) ∙ so.value_is;
        are_digits = sym (ap (λ b. b && list_all is_digit (drop (i + 1) ds)) digit) ∙ (sym (ap (list_all is_digit) next) ∙ so.are_digits);
        low = omega (arith, v, p, high);
      }

-- all are read
pub all_read : (ds : List ℕ) (i value : ℕ) → length ds ≤ i → IsRead ds i value → (list_all is_digit ds ≡ true) × (value ≡ digits_value ds)
all_read ds i value past so =
    (sym so.are_digits ∙ ap (list_all is_digit) (drop_all i ds past), sym (ap (value_behind value) (drop_all i ds past)) ∙ so.value_is)

-- few digits spell a small value
pub value_low : (i value : ℕ) → value < 10 ^ i → i ≤ 10 → value < 10 ^ 10
value_low i value l s = let p : 10 ^ i ≤ 10 ^ 10 = pow-le-pow_right {n = 10} (omega arith) s in omega (arith, l, p)
