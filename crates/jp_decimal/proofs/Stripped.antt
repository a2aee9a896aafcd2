-- What is left of the digits without the zeros in front and after.
use Rattle.std.proofs.Common.{◌≡◌, ℕ, suc, ◌+◌, ◌-◌, ◌*◌, ◌^◌, ◌<◌, ◌≤◌, ◌≢◌, Bool, true, false, subst, List, [], ◌∷◌, length, get_or, slice_range, sym, inl, inr, ◌∙◌, ap, refl, arith, ℤ, pos, ◌+ℤ◌, ◌-ℤ◌, length-append}
use Rattle.std.specs.List.{list_all}
use Rattle.std.proofs.lemmas.Bool.{cases_lt}
use Rattle.std.proofs.lemmas.Int.{ints}
use Rattle.std.proofs.lemmas.List.{get_or_past}
use Rattle.std.proofs.lemmas.List.Edits.{length-between, get_or-between}
use Rattle.jp_decimal.specs.declared.parts.Magnitude.{Magnitude}
use Rattle.jp_model.specs.Characters.{is_digit, digits_value}
use Rattle.jp_model.specs.Json.Numbers.{AreDigits, signed}
use Rattle.jp_decimal.specs.declared.key.KeySize.{KeySize}
use Rattle.jp_decimal.specs.Keys.{IsSizeOf, IsSignedSizeOf}
use Rattle.jp_decimal.specs.Values.{Number}
use Rattle.jp_model.proofs.Reader.Numbers.{digits_whole}
use Rattle.jp_decimal.proofs.Signs.{number_of}
use Rattle.jp_decimal.specs.Magnitudes.{BeginsWithZeros, EndsWithZeros, digits, exponent_behind, power_above, unsigned_mantissa}
use Rattle.jp_decimal.proofs.Law.{same_position_equal}
use Rattle.jp_decimal.proofs.Sizes.{digit_at}

pub ends_behind : (ds : List ℕ) (k end : ℕ) → EndsWithZeros ds end → 0x30 < get_or ds k 0x30 → k < end
ends_behind ds k end z lead =
    elim (cases_lt k end) [ inl l ↦ l | inr g ↦ let e = z k g in absurd (omega (arith, e)) ]

pub digit_between : (ds : List ℕ) (k end i : ℕ) → end ≤ length ds → EndsWithZeros ds end → get_or ds (k + i) 0x30 ≡ get_or (slice_range ds k end) i 0x30
digit_between ds k end i w z =
    elim (cases_lt (k + i) end) [
      | inl l ↦ sym (get_or-between ds k end i 0x30 l)
      | inr g ↦ z (k + i) g ∙ sym (get_or_past (slice_range ds k end) i 0x30 (rw (length-between ds k end w) (omega arith)))
    ]

pub value_between : (ds : List ℕ) (k end : ℕ) → k < end → end ≤ length ds → BeginsWithZeros ds k → EndsWithZeros ds end → digits_value ds ≡ digits_value (slice_range ds k end) * 10 ^ (length ds - end)
value_between ds k end l w h z =
    let n = length-between ds k end w in
    let once : digits_value ds * 10 ^ 0 ≡ digits_value ds = omega arith in
    sym once ∙ same_position_equal ds (slice_range ds k end) 0 (length ds - end) k 0 h (λ j m. absurd (omega arith)) (omega (arith, n)) (λ i. digit_between ds k end i w z ∙ ap (λ m. get_or (slice_range ds k end) m 0x30) (omega arith))

digits_by_index : (ds : List ℕ) → ((i : ℕ) → is_digit (get_or ds i 0x30) ≡ true) → AreDigits ds
digits_by_index [] h = tt
digits_by_index (d ∷ ds) h = (h 0, digits_by_index ds (λ i. h (suc i)))

pub digits_between : (ds : List ℕ) (k end : ℕ) → end ≤ length ds → EndsWithZeros ds end → AreDigits ds → AreDigits (slice_range ds k end)
digits_between ds k end w z a =
    digits_by_index (slice_range ds k end) (λ i. ap is_digit (sym (digit_between ds k end i w z)) ∙ digit_at ds (k + i) a)

scale_is : (e : ℤ) (a b k end n z : ℕ) → n + k ≡ end → z + end ≡ a + b → (e -ℤ pos b) +ℤ pos z ≡ (e +ℤ pos a -ℤ pos k) -ℤ pos n
scale_is e a b k end n z g f = omega (arith, ints)

pub scale_between : (m : Magnitude) (k end : ℕ) → k < end → end ≤ length (digits m) → exponent_behind m +ℤ pos (length (digits m) - end) ≡ power_above m k -ℤ pos (length (slice_range (digits m) k end))
scale_between m k end l w =
    let e = length-append m.int.now m.fraction.now in
    let n = length-between (digits m) k end w in
    scale_is m.exponent (length m.int.now) (length m.fraction.now) k end (length (slice_range (digits m) k end)) (length (digits m) - end) (omega (arith, n)) (omega (arith, e))

first_between : (ds : List ℕ) (k end : ℕ) → end ≤ length ds → EndsWithZeros ds end → get_or (slice_range ds k end) 0 0x30 ≡ get_or ds k 0x30
first_between ds k end w z = sym (digit_between ds k end 0 w z) ∙ ap (λ n. get_or ds n 0x30) (omega arith)

last_between : (ds : List ℕ) (k end : ℕ) → k < end → end ≤ length ds → EndsWithZeros ds end → get_or (slice_range ds k end) (length (slice_range ds k end) - 1) 0x30 ≡ get_or ds (end - 1) 0x30
last_between ds k end l w z =
    let n = length-between ds k end w in
    sym (digit_between ds k end (length (slice_range ds k end) - 1) w z) ∙ ap (λ n. get_or ds n 0x30) (omega (arith, n))

pub record IsStripped (items : List ℕ) : Type 0 where
  pub are_digits : list_all is_digit items ≡ true
  pub first : get_or items 0 0x30 ≢ 0x30
  pub last : get_or items (length items - 1) 0x30 ≢ 0x30

pub is_stripped : (ds items : List ℕ) (k end : ℕ) → items ≡ slice_range ds k end → k < end → end ≤ length ds → AreDigits ds → EndsWithZeros ds end → 0x30 < get_or ds k 0x30 → get_or ds (end - 1) 0x30 ≢ 0x30 → IsStripped items
is_stripped ds items k end e l w a z lead last =
    rw e (record {
      are_digits = digits_whole (slice_range ds k end) (digits_between ds k end w z a);
      first = λ h. let g : get_or ds k 0x30 ≡ 0x30 = sym (first_between ds k end w z) ∙ h in absurd (omega arith);
      last = λ h. last (sym (last_between ds k end l w z) ∙ h);
    })

pub signed_zero : (s : Bool) (n : ℕ) → n ≡ 0 → signed s n ≡ pos 0
signed_zero true n e = rw e refl
signed_zero false n e = ap pos e

pub with_sign : (k : KeySize) (s b : Bool) (m : Magnitude) (x : Number) → b ≡ s → number_of b m ≡ x → IsSizeOf k (unsigned_mantissa m) (exponent_behind m) → IsSignedSizeOf k s x
with_sign k s b m x e v h =
    let P : ℤ → Type 0 = λ z. IsSizeOf k (unsigned_mantissa m) z in
    record {
      unsigned = unsigned_mantissa m;
      is_signed = ap (λ (y : Number). y.mantissa) (sym v) ∙ ap (λ z. signed z (unsigned_mantissa m)) e;
      is_size = subst P (ap (λ (y : Number). y.scale) v) h;
    }
