-- The order of two digit lists of one length is decided at the first position where they differ.
use Rattle.std.proofs.Common.{◌≡◌, ℕ, zero, suc, ◌+◌, ◌-◌, ◌*◌, ◌^◌, ◌<◌, ◌≤◌, true, List, [], ◌∷◌, ◌++◌, length, get_or, sym, inl, inr, ◌∙◌, ap, refl, arith}
use Rattle.std.proofs.lemmas.Bool.{cases_lt}
use Rattle.std.proofs.lemmas.Bool.Decides.{nat_tests}
use Rattle.std.proofs.lemmas.List.{length-replicate, length-append, ext_get_or}
use Rattle.std.proofs.Math.ListN.{replicate}
use Rattle.std.proofs.Math.Nat.{pow-succ', mul-le-mul_right}
use Rattle.jp_model.specs.Characters.{is_digit, value_behind, digits_value}
use Rattle.jp_model.specs.Json.Numbers.{AreDigits}

digit_low : (d : ℕ) → is_digit d ≡ true → 0x30 ≤ d
digit_low d h = grind (arith, nat_tests, h)

digit_high : (d : ℕ) → is_digit d ≡ true → d ≤ 0x39
digit_high d h = grind (arith, nat_tests, h)

-- digits stand in front of digits
behind_step : (b d p q v x y : ℕ) → q ≡ 10 * p → x ≡ (b * 10 + d) * p + v → y ≡ (0 + d) * p + v → x ≡ b * q + y
behind_step b d p q v x y e f g = rw e (omega (arith, f, g))

pub behind : (b : ℕ) (ds : List ℕ) → value_behind b ds ≡ b * 10 ^ length ds + digits_value ds
behind b [] = omega arith
behind b (d ∷ ds) = behind_step b (d - 0x30) (10 ^ length ds) (10 ^ suc (length ds)) (digits_value ds) _ _ (pow-succ' 10 (length ds)) (behind (b * 10 + (d - 0x30)) ds) (behind (0 + (d - 0x30)) ds)

pub first_digit : (d : ℕ) (ds : List ℕ) → digits_value (d ∷ ds) ≡ (d - 0x30) * 10 ^ length ds + digits_value ds
first_digit d ds = behind (0 + (d - 0x30)) ds ∙ ap (λ n. n * 10 ^ length ds + digits_value ds) (omega arith)

pub behind_append : (b : ℕ) (xs ys : List ℕ) → value_behind b (xs ++ ys) ≡ value_behind (value_behind b xs) ys
behind_append b [] ys = refl
behind_append b (x ∷ xs) ys = behind_append (b * 10 + (x - 0x30)) xs ys

pub value_append : (xs ys : List ℕ) → digits_value (xs ++ ys) ≡ digits_value xs * 10 ^ length ys + digits_value ys
value_append xs ys = behind_append 0 xs ys ∙ behind (digits_value xs) ys

abbrev pub zeros : ℕ → List ℕ
zeros n = replicate n 0x30

pub value_zeros : (n : ℕ) → digits_value (zeros n) ≡ 0
value_zeros zero = refl
value_zeros (suc n) = value_zeros n

-- a value is below ten to the number of digits
below_step : (d p q v : ℕ) → d ≤ 9 → v < p → q ≡ 10 * p → d * p + v < q
below_step d p q v a b e = let h = mul-le-mul_right p a in omega (arith, e, h)

pub value_below : (ds : List ℕ) → AreDigits ds → digits_value ds < 10 ^ length ds
value_below [] a = omega arith
value_below (d ∷ ds) a = rw (first_digit d ds) (below_step (d - 0x30) (10 ^ length ds) (10 ^ suc (length ds)) (digits_value ds) (let h = digit_high d a.0 in omega arith) (value_below ds a.1) (pow-succ' 10 (length ds)))

less_step : (x y p v w : ℕ) → x < y → v < p → x * p + v < y * p + w
less_step x y p v w h b = let k = mul-le-mul_right {m = suc x} {n = y} p (omega arith) in omega (arith, k)

-- the first position where they differ decides
pub first_less : (xs ys : List ℕ) (k : ℕ) → length xs ≡ length ys → AreDigits xs → AreDigits ys
    → ((j : ℕ) → j < k → get_or xs j 0x30 ≡ get_or ys j 0x30) → get_or xs k 0x30 < get_or ys k 0x30 → digits_value xs < digits_value ys
first_less [] [] k e a b same less = absurd (omega arith)
first_less [] (y ∷ ys) k e a b same less = absurd (omega arith)
first_less (x ∷ xs) [] k e a b same less = absurd (omega arith)
first_less (x ∷ xs) (y ∷ ys) zero e a b same less =
    let h : x - 0x30 < y - 0x30 = let low = digit_low x a.0 in omega arith in
    let n : length ys ≡ length xs = omega arith in
    rw (first_digit x xs, first_digit y ys, n) (less_step (x - 0x30) (y - 0x30) (10 ^ length xs) (digits_value xs) (digits_value ys) h (value_below xs a.1))
first_less (x ∷ xs) (y ∷ ys) (suc k) e a b same less =
    let n : length ys ≡ length xs = omega arith in
    let h : x ≡ y = same 0 (omega arith) in
    let rest = first_less xs ys k (omega arith) a.1 b.1 (λ j l. same (suc j) (omega arith)) less in
    rw (first_digit x xs, first_digit y ys, n, h) (omega (arith, rest))

-- digits between zeros
abbrev pub between_zeros : ℕ → List ℕ → ℕ → List ℕ
between_zeros a ds x = zeros a ++ (ds ++ zeros x)

zeros_are_digits : (n : ℕ) → AreDigits (zeros n)
zeros_are_digits zero = tt
zeros_are_digits (suc n) = (refl, zeros_are_digits n)

pub digits_append : (xs ys : List ℕ) → AreDigits xs → AreDigits ys → AreDigits (xs ++ ys)
digits_append [] ys a b = b
digits_append (x ∷ xs) ys a b = (a.0, digits_append xs ys a.1 b)

between_are_digits : (a : ℕ) (ds : List ℕ) (x : ℕ) → AreDigits ds → AreDigits (between_zeros a ds x)
between_are_digits a ds x h = digits_append (zeros a) (ds ++ zeros x) (zeros_are_digits a) (digits_append ds (zeros x) h (zeros_are_digits x))

value_between : (a : ℕ) (ds : List ℕ) (x : ℕ) → digits_value (between_zeros a ds x) ≡ digits_value ds * 10 ^ x
value_between a ds x =
    value_append (zeros a) (ds ++ zeros x)
    ∙ (rw (value_zeros a, value_append ds (zeros x), value_zeros x, length-replicate {A = ℕ} x 0x30) (omega arith))

length_between : (a : ℕ) (ds : List ℕ) (x : ℕ) → length (between_zeros a ds x) ≡ a + (length ds + x)
length_between a ds x = simp (length-append, length-replicate)

-- past the end stands a zero
past_end : (n j : ℕ) → get_or (zeros n) j 0x30 ≡ 0x30
past_end zero j = refl
past_end (suc n) zero = refl
past_end (suc n) (suc j) = past_end n j

more_zeros : (ds : List ℕ) (x j : ℕ) → get_or (ds ++ zeros x) j 0x30 ≡ get_or ds j 0x30
more_zeros [] x j = past_end x j
more_zeros (d ∷ ds) x zero = refl
more_zeros (d ∷ ds) x (suc j) = more_zeros ds x j

abbrev pub BeginsWithZeros : List ℕ → ℕ → Type 0
BeginsWithZeros ds k = (j : ℕ) → j < k → get_or ds j 0x30 ≡ 0x30

front_zero : (a : ℕ) (ds : List ℕ) (x k j : ℕ) → BeginsWithZeros ds k → j < a + k → get_or (between_zeros a ds x) j 0x30 ≡ 0x30
front_zero zero ds x k j h l = more_zeros ds x j ∙ h j (omega arith)
front_zero (suc a) ds x k zero h l = refl
front_zero (suc a) ds x k (suc j) h l = front_zero a ds x k j h (omega arith)

behind_front : (a : ℕ) (ds : List ℕ) (x i j : ℕ) → j ≡ a + i → get_or (between_zeros a ds x) j 0x30 ≡ get_or ds i 0x30
behind_front zero ds x i j e = more_zeros ds x j ∙ ap (λ n. get_or ds n 0x30) (omega arith)
behind_front (suc a) ds x i zero e = absurd (omega arith)
behind_front (suc a) ds x i (suc j) e = behind_front a ds x i j (omega arith)

-- one number's leading digit stands at a higher position
pub lower_position : (ds es : List ℕ) (x y k l : ℕ) → AreDigits ds → AreDigits es → BeginsWithZeros ds k → BeginsWithZeros es l
    → 0x30 < get_or es l 0x30 → length ds + x + l < length es + y + k → digits_value ds * 10 ^ x < digits_value es * 10 ^ y
lower_position ds es x y k l p q h g lead less =
    let a = length es + y in
    let b = length ds + x in
    let top : get_or (between_zeros a ds x) (b + l) 0x30 < get_or (between_zeros b es y) (b + l) 0x30 =
    rw (front_zero a ds x k (b + l) h less, behind_front b es y l (b + l) refl) lead in
    rw (← value_between a ds x, ← value_between b es y)
    (first_less (between_zeros a ds x) (between_zeros b es y) (b + l) (length_between a ds x ∙ (omega (arith, length_between b es y)))
    (between_are_digits a ds x p) (between_are_digits b es y q)
    (λ j m. front_zero a ds x k j h (omega arith) ∙ sym (front_zero b es y l j g m)) top)

-- the digits before the first that differ
agree : (ds es : List ℕ) (x y k l n : ℕ) → BeginsWithZeros ds k → BeginsWithZeros es l → length ds + x + l ≡ length es + y + k
    → ((i : ℕ) → i < n → get_or ds (k + i) 0x30 ≡ get_or es (l + i) 0x30)
    → (j : ℕ) → j < length ds + x + l + n → get_or (between_zeros (length es + y) ds x) j 0x30 ≡ get_or (between_zeros (length ds + x) es y) j 0x30
agree ds es x y k l n h g position same j m =
    elim (cases_lt j (length ds + x + l)) [
      | inl early ↦ front_zero (length es + y) ds x k j h (omega arith) ∙ sym (front_zero (length ds + x) es y l j g early)
      | inr late ↦
          let i = j - (length ds + x + l) in
          behind_front (length es + y) ds x (k + i) j (omega arith) ∙ (same i (omega arith) ∙ sym (behind_front (length ds + x) es y (l + i) j (omega arith)))
    ]

pub same_position_less : (ds es : List ℕ) (x y k l n : ℕ) → AreDigits ds → AreDigits es → BeginsWithZeros ds k → BeginsWithZeros es l → length ds + x + l ≡ length es + y + k
    → ((i : ℕ) → i < n → get_or ds (k + i) 0x30 ≡ get_or es (l + i) 0x30) → get_or ds (k + n) 0x30 < get_or es (l + n) 0x30
    → digits_value ds * 10 ^ x < digits_value es * 10 ^ y
same_position_less ds es x y k l n p q h g position same less =
    let a = length es + y in
    let b = length ds + x in
    let top : get_or (between_zeros a ds x) (b + l + n) 0x30 < get_or (between_zeros b es y) (b + l + n) 0x30 =
    rw (behind_front a ds x (k + n) (b + l + n) (omega arith), behind_front b es y (l + n) (b + l + n) (omega arith)) less in
    rw (← value_between a ds x, ← value_between b es y)
    (first_less (between_zeros a ds x) (between_zeros b es y) (b + l + n) (length_between a ds x ∙ (omega (arith, length_between b es y)))
    (between_are_digits a ds x p) (between_are_digits b es y q) (agree ds es x y k l n h g position same) top)

pub same_position_equal : (ds es : List ℕ) (x y k l : ℕ) → BeginsWithZeros ds k → BeginsWithZeros es l → length ds + x + l ≡ length es + y + k
    → ((i : ℕ) → get_or ds (k + i) 0x30 ≡ get_or es (l + i) 0x30)
    → digits_value ds * 10 ^ x ≡ digits_value es * 10 ^ y
same_position_equal ds es x y k l h g position same =
    let a = length es + y in
    let b = length ds + x in
    let one : between_zeros a ds x ≡ between_zeros b es y =
    ext_get_or 0x30 (between_zeros a ds x) (between_zeros b es y) (length_between a ds x ∙ (omega (arith, length_between b es y)))
    (λ j m. agree ds es x y k l (suc j) h g position (λ i _. same i) j (omega arith)) in
    sym (value_between a ds x) ∙ (ap digits_value one ∙ value_between b es y)
