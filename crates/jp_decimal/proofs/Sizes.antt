-- The order of two numbers without a sign, read off their digits.
use Rattle.std.proofs.Common.{◌≡◌, ℕ, zero, suc, ◌+◌, ◌-◌, ◌*◌, ◌^◌, ◌<◌, ◌≤◌, ◌≢◌, true, List, [], ◌∷◌, length, get_or, sym, inl, inr, ◌∙◌, ap, subst, refl, arith, ℤ, pos, ◌+ℤ◌, ◌-ℤ◌, ◌<ℤ◌, nat_abs, length-append, Ordering, Less, Equal, Greater}
use Rattle.std.specs.Ordering.{nat_cmp}
use Rattle.std.proofs.lemmas.Bool.{cases_lt, cases_order}
use Rattle.std.proofs.lemmas.Bool.Decides.{nat_tests}
use Rattle.std.proofs.lemmas.Int.{ints}
use Rattle.std.proofs.lemmas.List.{get_or_past}
use Rattle.std.proofs.Math.Nat.{one-le-pow, mul-pos}
use Rattle.jp_model.specs.Characters.{is_digit, digits_value}
use Rattle.jp_model.specs.Json.Numbers.{AreDigits, smaller}
use Rattle.jp_decimal.specs.declared.parts.Magnitude.{Magnitude}
use Rattle.jp_decimal.specs.declared.measured.Measured.{Measured}
use Rattle.jp_decimal.specs.Magnitudes.{digits, unsigned_mantissa, exponent_behind, power_above, BeginsWithZeros, EndsWithZeros}
use Rattle.jp_decimal.specs.Values.{size_order}
use Rattle.jp_model.proofs.Reader.Numbers.{digits_found}
use Rattle.jp_decimal.proofs.Law.{digits_append, lower_position, same_position_less, same_position_equal}

pub nat_less : (a b : ℕ) → a < b → nat_cmp a b ≡ Less
nat_less a b h = grind (arith, nat_tests)

pub nat_greater : (a b : ℕ) → b < a → nat_cmp a b ≡ Greater
nat_greater a b h = grind (arith, nat_tests)

pub nat_same : (a b : ℕ) → a ≡ b → nat_cmp a b ≡ Equal
nat_same a b h = grind (arith, nat_tests)

pub are_the_digits : (m : Magnitude) → AreDigits (digits m)
are_the_digits m = digits_append m.int.now m.fraction.now (digits_found m.int.now m.int_digits) (digits_found m.fraction.now m.fraction_digits)

pub digit_at : (ds : List ℕ) (k : ℕ) → AreDigits ds → is_digit (get_or ds k 0x30) ≡ true
digit_at [] k a = refl
digit_at (d ∷ ds) zero a = a.0
digit_at (d ∷ ds) (suc k) a = digit_at ds k a.1

not_zero : (d : ℕ) → is_digit d ≡ true → d ≢ 0x30 → 0x30 < d
not_zero d h n = grind (arith, nat_tests, h)

pub leads : (ds : List ℕ) (k : ℕ) → AreDigits ds → get_or ds k 0x30 ≢ 0x30 → 0x30 < get_or ds k 0x30
leads ds k a n = not_zero (get_or ds k 0x30) (digit_at ds k a) n

-- ---- digits after those of another number

least_digit : (d : ℕ) → is_digit d ≡ true → d ≤ 0x30 → d ≡ 0x30
least_digit d h l = grind (arith, nat_tests, h)

-- the first digit that is not zero, from a position on
record FirstFrom (es : List ℕ) (from : ℕ) : Type 0 where
  at : ℕ
  zeros : (j : ℕ) → j < at → get_or es (from + j) 0x30 ≡ 0x30
  digit : 0x30 < get_or es (from + at) 0x30

zeros_behind : (es : List ℕ) (from at : ℕ) → get_or es from 0x30 ≡ 0x30 → ((j : ℕ) → j < at → get_or es (from + 1 + j) 0x30 ≡ 0x30) → (j : ℕ) → j < at + 1 → get_or es (from + j) 0x30 ≡ 0x30
zeros_behind es from at e h zero l = ap (λ k. get_or es k 0x30) (let z : from + 0 ≡ from = omega arith in z) ∙ e
zeros_behind es from at e h (suc j) l = ap (λ k. get_or es k 0x30) (let z : from + suc j ≡ from + 1 + j = omega arith in z) ∙ h j (omega arith)

first_from : (es : List ℕ) (from n : ℕ) → AreDigits es → 0x30 < get_or es (from + n) 0x30 → FirstFrom es from
first_from es from zero a h = record { at = 0; zeros = λ j l. absurd (omega arith); digit = h }
first_from es from (suc n) a h =
    elim (cases_lt 0x30 (get_or es from 0x30)) [
      | inl l ↦ record { at = 0; zeros = λ j m. absurd (omega arith); digit = subst (λ k. 0x30 < get_or es k 0x30) (let z : from ≡ from + 0 = omega arith in z) l }
      | inr g ↦
          let rest = first_from es (from + 1) n a (subst (λ k. 0x30 < get_or es k 0x30) (let z : from + suc n ≡ from + 1 + n = omega arith in z) h) in
          record {
            at = rest.at + 1;
            zeros = zeros_behind es from rest.at (least_digit (get_or es from 0x30) (digit_at es from a) g) rest.zeros;
            digit = subst (λ k. 0x30 < get_or es k 0x30) (let z : from + 1 + rest.at ≡ from + (rest.at + 1) = omega arith in z) rest.digit;
          }
    ]

-- where one has only zeros the other still has a digit
pub longer_is_more : (ds es : List ℕ) (x y k l a b : ℕ) → AreDigits ds → AreDigits es → BeginsWithZeros ds k → BeginsWithZeros es l → length ds + x + l ≡ length es + y + k
    → ((i : ℕ) → i < a → get_or ds (k + i) 0x30 ≡ get_or es (l + i) 0x30) → EndsWithZeros ds (k + a) → a < b → get_or es (l + b - 1) 0x30 ≢ 0x30
    → digits_value ds * 10 ^ x < digits_value es * 10 ^ y
longer_is_more ds es x y k l a b p q h g position same behind less last =
    let n = b - 1 - a in
    let there : l + a + n ≡ l + b - 1 = omega arith in
    let found = first_from es (l + a) n q (leads es (l + a + n) q (λ e. last (ap (λ i. get_or es i 0x30) (sym there) ∙ e))) in
    let at : ℕ = a + found.at in
    let here : get_or ds (k + at) 0x30 ≡ 0x30 = behind (k + at) (omega arith) in
    let above : 0x30 < get_or es (l + at) 0x30 = subst (λ i. 0x30 < get_or es i 0x30) (let z : l + a + found.at ≡ l + (a + found.at) = omega arith in z) found.digit in
    same_position_less ds es x y k l at p q h g position
    (λ i m. elim (cases_lt i a) [
      | inl early ↦ same i early
      | inr late ↦
          let z : l + i ≡ l + a + (i - a) = omega arith in
          let more : i - a < found.at = omega arith in
          behind (k + i) (omega arith) ∙ sym (ap (λ j. get_or es j 0x30) z ∙ found.zeros (i - a) more)
    ])
    (rw here above)

-- the exponents are as far apart as the powers that bring them to the smaller one
pub balance : (e f : ℤ) → pos (nat_abs (e -ℤ smaller e f)) +ℤ f ≡ pos (nat_abs (f -ℤ smaller e f)) +ℤ e
balance e f = grind (arith, ints)

pub order_where_they_differ : (ds es : List ℕ) (x y k l n : ℕ) → AreDigits ds → AreDigits es → BeginsWithZeros ds k → BeginsWithZeros es l → length ds + x + l ≡ length es + y + k
    → ((i : ℕ) → i < n → get_or ds (k + i) 0x30 ≡ get_or es (l + i) 0x30) → get_or ds (k + n) 0x30 ≢ get_or es (l + n) 0x30
    → nat_cmp (get_or ds (k + n) 0x30) (get_or es (l + n) 0x30) ≡ nat_cmp (digits_value ds * 10 ^ x) (digits_value es * 10 ^ y)
order_where_they_differ ds es x y k l n p q h g position same ne =
    elim (cases_order (get_or ds (k + n) 0x30) (get_or es (l + n) 0x30)) [
      | inl e ↦ absurd (ne e)
      | inr (inl less) ↦
          nat_less _ _ less ∙ sym (nat_less _ _ (same_position_less ds es x y k l n p q h g position same less))
      | inr (inr more) ↦
          nat_greater _ _ more ∙ sym (nat_greater _ _ (same_position_less es ds y x l k n q p g h (sym position) (λ i m. sym (same i m)) more))
    ]

-- past the digits stand zeros
pub only_zeros : (ds : List ℕ) (k n : ℕ) → BeginsWithZeros ds k → length ds ≤ k → BeginsWithZeros ds n
only_zeros ds k n h e j l =
    elim (cases_lt j k) [ inl early ↦ h j early | inr late ↦ get_or_past ds j 0x30 (omega arith) ]

zero_times : (v : ℕ) → v * 10 ^ 0 ≡ v
zero_times v = omega arith

pub value_of_zeros : (ds : List ℕ) (k : ℕ) → BeginsWithZeros ds k → length ds ≤ k → digits_value ds ≡ 0
value_of_zeros ds k h e =
    sym (zero_times (digits_value ds))
    ∙ same_position_equal ds [] 0 0 (length ds) 0 (only_zeros ds k (length ds) h e) (λ j l. refl) (omega arith) (λ i. only_zeros ds k (length ds + i + 1) h e (length ds + i) (omega arith))

pub value_above_zero : (ds : List ℕ) (k : ℕ) → AreDigits ds → BeginsWithZeros ds k → 0x30 < get_or ds k 0x30 → 0 < digits_value ds
value_above_zero ds k a h lead =
    let e : digits_value [] * 10 ^ 0 < digits_value ds * 10 ^ 0 = lower_position [] ds 0 0 (k + 1) k tt a (λ j l. refl) h lead (omega arith) in
    omega arith

-- the power of ten above the first digit, at a common exponent
positions_below : (e f : ℤ) (a b c d k l x y : ℕ) → pos x +ℤ (f -ℤ pos d) ≡ pos y +ℤ (e -ℤ pos b) → (e +ℤ pos a -ℤ pos k) <ℤ (f +ℤ pos c -ℤ pos l) → a + b + x + l < c + d + y + k
positions_below e f a b c d k l x y g h = omega (arith, ints)

positions_same : (e f : ℤ) (a b c d k l x y : ℕ) → pos x +ℤ (f -ℤ pos d) ≡ pos y +ℤ (e -ℤ pos b) → e +ℤ pos a -ℤ pos k ≡ f +ℤ pos c -ℤ pos l → a + b + x + l ≡ c + d + y + k
positions_same e f a b c d k l x y g h = omega (arith, ints)

abbrev pub raised : Magnitude → Magnitude → ℕ
raised m n = nat_abs (exponent_behind m -ℤ smaller (exponent_behind m) (exponent_behind n))

abbrev pub raised_other : Magnitude → Magnitude → ℕ
raised_other m n = nat_abs (exponent_behind n -ℤ smaller (exponent_behind m) (exponent_behind n))

positions : (m n : Magnitude) → pos (raised m n) +ℤ exponent_behind n ≡ pos (raised_other m n) +ℤ exponent_behind m
positions m n = balance (exponent_behind m) (exponent_behind n)

pub position_less : (m n : Magnitude) (k l : ℕ) → power_above m k <ℤ power_above n l → length (digits m) + raised m n + l < length (digits n) + raised_other m n + k
position_less m n k l h =
    rw (length-append m.int.now m.fraction.now, length-append n.int.now n.fraction.now)
    (positions_below m.exponent n.exponent (length m.int.now) (length m.fraction.now) (length n.int.now) (length n.fraction.now) k l (raised m n) (raised_other m n) (positions m n) h)

pub position_more : (m n : Magnitude) (k l : ℕ) → power_above n l <ℤ power_above m k → length (digits n) + raised_other m n + k < length (digits m) + raised m n + l
position_more m n k l h =
    rw (length-append m.int.now m.fraction.now, length-append n.int.now n.fraction.now)
    (positions_below n.exponent m.exponent (length n.int.now) (length n.fraction.now) (length m.int.now) (length m.fraction.now) l k (raised_other m n) (raised m n) (sym (positions m n)) h)

pub position_same : (m n : Magnitude) (k l : ℕ) → power_above m k ≡ power_above n l → length (digits m) + raised m n + l ≡ length (digits n) + raised_other m n + k
position_same m n k l h =
    rw (length-append m.int.now m.fraction.now, length-append n.int.now n.fraction.now)
    (positions_same m.exponent n.exponent (length m.int.now) (length m.fraction.now) (length n.int.now) (length n.fraction.now) k l (raised m n) (raised_other m n) (positions m n) h)

abbrev pub order_of : Magnitude → Magnitude → Ordering
order_of m n = size_order (unsigned_mantissa m) (exponent_behind m) (unsigned_mantissa n) (exponent_behind n)

-- the first digit of one stands at a lower power of ten, or it has only zeros
pub less_by_position : (m n : Magnitude) (k l : ℕ) → BeginsWithZeros (digits m) k → BeginsWithZeros (digits n) l → 0x30 < get_or (digits n) l 0x30 → power_above m k <ℤ power_above n l → Less ≡ order_of m n
less_by_position m n k l h g lead less =
    sym (nat_less _ _ (lower_position (digits m) (digits n) (raised m n) (raised_other m n) k l (are_the_digits m) (are_the_digits n) h g lead (position_less m n k l less)))

pub greater_by_position : (m n : Magnitude) (k l : ℕ) → BeginsWithZeros (digits m) k → BeginsWithZeros (digits n) l → 0x30 < get_or (digits m) k 0x30 → power_above n l <ℤ power_above m k → Greater ≡ order_of m n
greater_by_position m n k l h g lead less =
    sym (nat_greater _ _ (lower_position (digits n) (digits m) (raised_other m n) (raised m n) l k (are_the_digits n) (are_the_digits m) g h lead (position_more m n k l less)))

-- of zero and another
times_zero : (a p b q : ℕ) → a ≡ 0 → 0 < b → 0 < q → a * p < b * q
times_zero a p b q e h g = let k : 0 < b * q = mul-pos h g in rw e (omega (arith, k))

pub zero_less : (m n : Magnitude) → unsigned_mantissa m ≡ 0 → 0 < unsigned_mantissa n → Less ≡ order_of m n
zero_less m n e h = sym (nat_less _ _ (times_zero (unsigned_mantissa m) (10 ^ raised m n) (unsigned_mantissa n) (10 ^ raised_other m n) e h (one-le-pow (raised_other m n) 10 (omega arith))))

pub greater_zero : (m n : Magnitude) → 0 < unsigned_mantissa m → unsigned_mantissa n ≡ 0 → Greater ≡ order_of m n
greater_zero m n h e = sym (nat_greater _ _ (times_zero (unsigned_mantissa n) (10 ^ raised_other m n) (unsigned_mantissa m) (10 ^ raised m n) e h (one-le-pow (raised m n) 10 (omega arith))))

-- the first digits stand at one power of ten
pub order_by_digits : (m n : Magnitude) (k l i : ℕ) → BeginsWithZeros (digits m) k → BeginsWithZeros (digits n) l → power_above m k ≡ power_above n l
    → ((j : ℕ) → j < i → get_or (digits m) (k + j) 0x30 ≡ get_or (digits n) (l + j) 0x30) → get_or (digits m) (k + i) 0x30 ≢ get_or (digits n) (l + i) 0x30
    → nat_cmp (get_or (digits m) (k + i) 0x30) (get_or (digits n) (l + i) 0x30) ≡ order_of m n
order_by_digits m n k l i h g e same ne =
    order_where_they_differ (digits m) (digits n) (raised m n) (raised_other m n) k l i (are_the_digits m) (are_the_digits n) h g (position_same m n k l e) same ne

pub equal_by_digits : (m n : Magnitude) (k l : ℕ) → BeginsWithZeros (digits m) k → BeginsWithZeros (digits n) l → power_above m k ≡ power_above n l
    → ((j : ℕ) → get_or (digits m) (k + j) 0x30 ≡ get_or (digits n) (l + j) 0x30) → Equal ≡ order_of m n
equal_by_digits m n k l h g e same = sym (nat_same _ _ (same_position_equal (digits m) (digits n) (raised m n) (raised_other m n) k l h g (position_same m n k l e) same))

-- the digits of the shorter are those of the longer
pub order_by_length : (x y : Measured) (i a b : ℕ) → a ≡ x.end - x.first → b ≡ y.end - y.first → power_above x.magnitude x.first ≡ power_above y.magnitude y.first
    → ((j : ℕ) → j < i → get_or (digits x.magnitude) (x.first + j) 0x30 ≡ get_or (digits y.magnitude) (y.first + j) 0x30) → (a ≤ b → a ≤ i) → (b ≤ a → b ≤ i)
    → nat_cmp a b ≡ order_of x.magnitude y.magnitude
order_by_length x y i a b e f position same p q =
    let m = x.magnitude in
    let n = y.magnitude in
    let ends : x.first + a ≡ x.end = let o = x.in_order in omega (arith, o) in
    let other_ends : y.first + b ≡ y.end = let o = y.in_order in omega (arith, o) in
    elim (cases_order a b) [
      | inl level ↦
          (let all : a ≤ i = p (omega arith) in
          nat_same _ _ level ∙ equal_by_digits m n x.first y.first x.zeros y.zeros position (λ j. elim (cases_lt j i) [
            | inl early ↦ same j early
            | inr late ↦ x.behind (x.first + j) (omega arith) ∙ sym (y.behind (y.first + j) (omega arith))
          ]))
      | inr (inl less) ↦
          (let all : a ≤ i = p (omega arith) in
          let last : get_or (digits n) (y.first + b - 1) 0x30 ≢ 0x30 = λ z. y.last (omega arith) (ap (λ j. get_or (digits n) j 0x30) (let w : y.end - 1 ≡ y.first + b - 1 = omega arith in w) ∙ z) in
          nat_less _ _ less ∙ sym (nat_less _ _ (longer_is_more (digits m) (digits n) (raised m n) (raised_other m n) x.first y.first a b (are_the_digits m) (are_the_digits n) x.zeros y.zeros (position_same m n x.first y.first position)
          (λ j l. same j (omega arith)) (λ j l. x.behind j (omega arith)) less last)))
      | inr (inr more) ↦
          (let all : b ≤ i = q (omega arith) in
          let last : get_or (digits m) (x.first + a - 1) 0x30 ≢ 0x30 = λ z. x.last (omega arith) (ap (λ j. get_or (digits m) j 0x30) (let w : x.end - 1 ≡ x.first + a - 1 = omega arith in w) ∙ z) in
          nat_greater _ _ more ∙ sym (nat_greater _ _ (longer_is_more (digits n) (digits m) (raised_other m n) (raised m n) y.first x.first b a (are_the_digits n) (are_the_digits m) y.zeros x.zeros (sym (position_same m n x.first y.first position))
          (λ j l. sym (same j (omega arith))) (λ j l. y.behind j (omega arith)) more last)))
    ]

-- of a number that is not zero, the first digit
pub lead_of : (x : Measured) → (unsigned_mantissa x.magnitude ≡ 0 → ⊥) → 0x30 < get_or (digits x.magnitude) x.first 0x30
lead_of x n =
    elim (cases_lt x.first (length (digits x.magnitude))) [ inl l ↦ x.lead l | inr g ↦ absurd (n (value_of_zeros (digits x.magnitude) x.first x.zeros g)) ]

pub above_zero : (m : Magnitude) → (unsigned_mantissa m ≡ 0 → ⊥) → 0 < unsigned_mantissa m
above_zero m n = grind (arith, n)
