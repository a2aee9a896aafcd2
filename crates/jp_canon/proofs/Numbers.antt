-- The text of a number by the digits and the power of ten of its value.
use Rattle.std.proofs.Common.{◌≡◌, ◌≢◌, ℕ, zero, suc, ◌+◌, ◌-◌, ◌*◌, ◌/◌, ◌%◌, ◌^◌, ◌<◌, ◌≤◌, Bool, true, false, cond, eqb, List, [], ◌∷◌, ◌++◌, length, map, get_or, refl, sym, subst, ◌∙◌, ap, ap₂, arith, append-nil, append_assoc, length-append, ℤ, pos, ◌+ℤ◌, ◌-ℤ◌}
use Rattle.std.specs.Int.Digits.{digits_of}
use Rattle.std.specs.List.{list_all}
use Rattle.std.proofs.lemmas.Bool.{and_from, and_parts, le-ltb, ne_eqb}
use Rattle.std.proofs.lemmas.Bool.Decides.{nat_tests}
use Rattle.std.proofs.lemmas.Int.{ints}
use Rattle.std.proofs.lemmas.Int.Digits.{digits_of_step}
use Rattle.std.proofs.lemmas.List.{get_or_append_left, map-append, length-replicate}
use Rattle.std.proofs.lemmas.List.Folds.{list_all_at}
use Rattle.std.proofs.Math.Nat.{mul-pos, one-le-pow, pow-succ'}
use Rattle.jp_model.specs.Characters.{is_digit, value_behind, digits_value}
use Rattle.jp_model.specs.Json.Numbers.{signed}
use Rattle.jp_canon.specs.Layout.{whole_text, zeros, without_trailing_zeros, with_point, size_text, number_text}
use Rattle.jp_canon.proofs.Exponents.{whole_some}
use Rattle.jp_canon.proofs.Layouts.{some_digits}
use Rattle.jp_decimal.specs.declared.key.KeySize.{KeySize}
use Rattle.jp_decimal.specs.Keys.{IsSignedSizeOf}
use Rattle.jp_decimal.specs.Values.{Number}

digit_low : (d : ℕ) → is_digit d ≡ true → 0x30 ≤ d
digit_low d h = grind (arith, nat_tests, h)

digit_high : (d : ℕ) → is_digit d ≡ true → d ≤ 0x39
digit_high d h = grind (arith, nat_tests, h)

-- ---- digits are those of their value

abbrev digits_text : ℕ → List ℕ
digits_text n = map (λ digit. 0x30 + digit) (digits_of 10 n)

one_more : (n d : ℕ) → 0 < n * 10 + (d - 0x30) → is_digit d ≡ true → digits_text (n * 10 + (d - 0x30)) ≡ digits_text n ++ d ∷ []
one_more n d some h =
    let low = digit_low d h in
    let high = digit_high d h in
    let m = n * 10 + (d - 0x30) in
    let front : m / 10 ≡ n = omega arith in
    let last : 0x30 + m % 10 ≡ d = omega arith in
    ap (map (λ digit. 0x30 + digit)) (digits_of_step 10 m (omega arith) some) ∙ (map-append (λ digit. 0x30 + digit) (digits_of 10 (m / 10)) (m % 10 ∷ [])
    ∙ ap₂ (λ (k c : ℕ). digits_text k ++ c ∷ []) front last)

all_more : (ds front : List ℕ) (n : ℕ) → 0 < n → list_all is_digit ds ≡ true → digits_text n ≡ front → digits_text (value_behind n ds) ≡ front ++ ds
all_more [] front n some a e = e ∙ sym (append-nil front)
all_more (d ∷ ds) front n some a e =
    let parts = and_parts (is_digit d) (list_all is_digit ds) a in
    all_more ds (front ++ d ∷ []) (n * 10 + (d - 0x30)) (omega arith) parts.1 (one_more n d (omega arith) parts.0 ∙ ap (λ (t : List ℕ). t ++ d ∷ []) e) ∙ append_assoc front (d ∷ []) ds

behind_some : (n : ℕ) (ds : List ℕ) → 0 < n → 0 < value_behind n ds
behind_some n [] h = h
behind_some n (d ∷ ds) h = behind_some (n * 10 + (d - 0x30)) ds (omega arith)

first_some : (d : ℕ) → is_digit d ≡ true → d ≢ 0x30 → 0 < 0 * 10 + (d - 0x30)
first_some d h n = grind (arith, nat_tests, h, n)

-- digits with no zero in front stand for more than nothing
pub value_some : (ds : List ℕ) → list_all is_digit ds ≡ true → get_or ds 0 0x30 ≢ 0x30 → 0 < digits_value ds
value_some [] a h = absurd (h refl)
value_some (d ∷ ds) a h = behind_some (0 * 10 + (d - 0x30)) ds (first_some d (and_parts (is_digit d) (list_all is_digit ds) a).0 h)

-- digits with no zero in front are the text of what they stand for
pub whole_digits : (ds : List ℕ) → list_all is_digit ds ≡ true → get_or ds 0 0x30 ≢ 0x30 → whole_text (digits_value ds) ≡ ds
whole_digits [] a h = absurd (h refl)
whole_digits (d ∷ ds) a h =
    let parts = and_parts (is_digit d) (list_all is_digit ds) a in
    let some = first_some d parts.0 h in
    whole_some (digits_value (d ∷ ds)) (value_some (d ∷ ds) a h) ∙ all_more ds (d ∷ []) (0 * 10 + (d - 0x30)) some parts.1 (one_more 0 d some parts.0)

-- ---- zeros after digits

times_ten : (n p q : ℕ) → q ≡ 10 * p → (n * 10 + 0) * p ≡ n * q
times_ten n p q e = rw e (omega arith)

behind_zeros : (n z : ℕ) → value_behind n (zeros z) ≡ n * 10 ^ z
behind_zeros n zero = omega arith
behind_zeros n (suc z) = behind_zeros (n * 10 + 0) z ∙ times_ten n (10 ^ z) (10 ^ suc z) (pow-succ' 10 z)

behind_append : (n : ℕ) (xs ys : List ℕ) → value_behind n (xs ++ ys) ≡ value_behind (value_behind n xs) ys
behind_append n [] ys = refl
behind_append n (x ∷ xs) ys = behind_append (n * 10 + (x - 0x30)) xs ys

pub value_with_zeros : (ds : List ℕ) (z : ℕ) → digits_value (ds ++ zeros z) ≡ digits_value ds * 10 ^ z
value_with_zeros ds z = behind_append 0 ds (zeros z) ∙ behind_zeros (digits_value ds) z

all_zeros : (z : ℕ) → list_all (λ digit. eqb digit 0x30) (zeros z) ≡ true
all_zeros zero = refl
all_zeros (suc z) = all_zeros z

digits_with_zeros : (ds : List ℕ) (z : ℕ) → list_all is_digit ds ≡ true → list_all is_digit (ds ++ zeros z) ≡ true
digits_with_zeros [] zero a = refl
digits_with_zeros [] (suc z) a = digits_with_zeros [] z a
digits_with_zeros (d ∷ ds) z a =
    let parts = and_parts (is_digit d) (list_all is_digit ds) a in
    and_from (is_digit d) (list_all is_digit (ds ++ zeros z)) parts.0 (digits_with_zeros ds z parts.1)

not_all_zeros : (ds : List ℕ) (z : ℕ) → get_or ds (length ds - 1) 0x30 ≢ 0x30 → 0 < length ds → list_all (λ digit. eqb digit 0x30) (ds ++ zeros z) ≡ false
not_all_zeros ds z h some =
    let last = length ds - 1 in
    list_all_at (λ digit. eqb digit 0x30) (ds ++ zeros z) last 0x30 (omega (arith, length-append ds (zeros z)))
    (ap (λ digit. eqb digit 0x30) (get_or_append_left ds (zeros z) 0x30 last (omega arith)) ∙ ne_eqb _ _ h)

-- without the zeros after them digits are left of which the last is no zero
pub trimmed : (ds : List ℕ) (z : ℕ) → (0 < length ds → get_or ds (length ds - 1) 0x30 ≢ 0x30) → without_trailing_zeros (ds ++ zeros z) ≡ ds
trimmed [] zero h = refl
trimmed [] (suc z) h = ap (λ b. cond b [] (0x30 ∷ without_trailing_zeros (zeros z))) (all_zeros (suc z))
trimmed (d ∷ ds) z h =
    let rest = trimmed ds z (λ some e. h (omega arith) (ap (λ i. get_or (d ∷ ds) i 0x30) (let i : length (d ∷ ds) - 1 ≡ suc (length ds - 1) = omega arith in i) ∙ e)) in
    ap₂ (λ (b : Bool) (t : List ℕ). cond b [] (d ∷ t)) (not_all_zeros (d ∷ ds) z (h (omega arith)) (omega arith)) rest

-- ---- the text of a size and of a number

-- The digits, where neither the first nor the last is a zero, with `z` zeros after them are those of the mantissa.
pub size_is : (ds : List ℕ) (m z : ℕ) (e power : ℤ) → list_all is_digit ds ≡ true → get_or ds 0 0x30 ≢ 0x30 → get_or ds (length ds - 1) 0x30 ≢ 0x30 → m ≡ digits_value ds * 10 ^ z → e +ℤ pos z ≡ power -ℤ pos (length ds) → with_point ds power ≡ size_text m e
size_is ds m z e power a first last is scale =
    let front : get_or (ds ++ zeros z) 0 0x30 ≡ get_or ds 0 0x30 = get_or_append_left ds (zeros z) 0x30 0 (some_digits ds first) in
    let text : whole_text m ≡ ds ++ zeros z = ap whole_text (is ∙ sym (value_with_zeros ds z)) ∙ whole_digits (ds ++ zeros z) (digits_with_zeros ds z a) (λ h. first (sym front ∙ h)) in
    let count : pos (length (whole_text m)) +ℤ e ≡ power = omega (arith, ints, scale, ap length text, length-append ds (zeros z), length-replicate {A = ℕ} z 0x30) in
    sym (ap₂ with_point (ap without_trailing_zeros text ∙ trimmed ds z (λ _. last)) count)

pub size_some : (ds : List ℕ) (m z : ℕ) → list_all is_digit ds ≡ true → get_or ds 0 0x30 ≢ 0x30 → m ≡ digits_value ds * 10 ^ z → 0 < m
size_some ds m z a first is = subst (λ n. 0 < n) (sym is) (mul-pos (value_some ds a first) (one-le-pow z 10 (omega arith)))

pub text_above : (m : ℕ) (e : ℤ) → 0 < m → size_text m e ≡ number_text (signed false m) e
text_above m e some = ap₂ (λ (a b : Bool). cond a (0x30 ∷ []) (cond b (0x2D ∷ size_text m e) (size_text m e))) (sym (ne_eqb m 0 (λ h. omega (arith, h, some)))) (sym (le-ltb m 0 (omega arith)))

pub text_below : (m : ℕ) (e : ℤ) → 0 < m → 0x2D ∷ size_text m e ≡ number_text (signed true m) e
text_below zero e some = absurd (omega (arith, some))
text_below (suc m) e some = ap (λ b. cond b (0x30 ∷ []) (0x2D ∷ size_text (suc m) e)) (sym (ne_eqb (suc m) 0 (λ h. omega (arith, h))))

-- ---- the same by the key of a number

pub key_above : (k : KeySize) (x : Number) → IsSignedSizeOf k false x → with_point k.digits.items k.power ≡ number_text x.mantissa x.scale
key_above k x h =
    let ds = k.digits.items in
    let s = h.is_size in
    size_is ds h.unsigned s.zeros x.scale k.power k.are_digits k.first k.last s.is_mantissa s.is_scale
    ∙ (text_above h.unsigned x.scale (size_some ds h.unsigned s.zeros k.are_digits k.first s.is_mantissa) ∙ ap (λ (m : ℤ). number_text m x.scale) (sym h.is_signed))

pub key_below : (k : KeySize) (x : Number) → IsSignedSizeOf k true x → 0x2D ∷ with_point k.digits.items k.power ≡ number_text x.mantissa x.scale
key_below k x h =
    let ds = k.digits.items in
    let s = h.is_size in
    ap (λ (t : List ℕ). 0x2D ∷ t) (size_is ds h.unsigned s.zeros x.scale k.power k.are_digits k.first k.last s.is_mantissa s.is_scale)
    ∙ (text_below h.unsigned x.scale (size_some ds h.unsigned s.zeros k.are_digits k.first s.is_mantissa) ∙ ap (λ (m : ℤ). number_text m x.scale) (sym h.is_signed))
