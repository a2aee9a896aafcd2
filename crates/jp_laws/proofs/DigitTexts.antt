-- The digits of a whole number spell it, in the grammars of JSON and of queries.
use Rattle.std.proofs.Common.{◌≡◌, ℕ, zero, suc, ◌+◌, ◌-◌, ◌*◌, ◌/◌, ◌%◌, ◌^◌, ◌<◌, ◌≤◌, ◌==◌, inl, inr, ⊎_elim, true, List, [], ◌∷◌, ◌++◌, length, map, get_or, refl, sym, ap, ap₂, subst, ◌∙◌, arith}
use Rattle.std.proofs.lemmas.Bool.{cases_lt, cond_both, cond-false, ne_eqb}
use Rattle.std.proofs.lemmas.Bool.Decides.{nat_tests}
use Rattle.std.proofs.lemmas.List.{get_or_append_left, length-append, length-map, map-append}
use Rattle.std.specs.Int.Digits.{digits_of}
use Rattle.std.proofs.lemmas.Int.Digits.{digits_of_step, length-digits_of-le}
use Rattle.jp_canon.specs.Layout.{whole_text}
use Rattle.jp_model.specs.Characters.{is_digit, digits_value, value_behind}
use Rattle.jp_model.specs.Json.Numbers.{AreDigits, AreSomeDigits, IsInt}

-- these digits, with no zero in front but of the number 0, stand for the number
pub record Spelt (n : ℕ) (ds : List ℕ) : Type 0 where
  pub digits : AreDigits ds
  pub some : 0 < length ds
  pub value : digits_value ds ≡ n
  pub alone : n < 10 → length ds ≡ 1
  pub first : 0 < n → 48 < get_or ds 0 0

digit_is : (d : ℕ) → d < 10 → is_digit (48 + d) ≡ true
digit_is d h = grind (arith, nat_tests, h)

one_digit : (n : ℕ) → n < 10 → Spelt n ((48 + n) ∷ [])
one_digit n h = record { digits = (digit_is n h, tt); some = omega arith; value = omega arith; alone = λ l. refl; first = λ l. omega arith }

digits_more : (ds : List ℕ) (d : ℕ) → AreDigits ds → is_digit d ≡ true → AreDigits (ds ++ d ∷ [])
digits_more [] d a h = (h, tt)
digits_more (c ∷ ds) d a h = (a.0, digits_more ds d a.1 h)

value_more : (before : ℕ) (ds : List ℕ) (d : ℕ) → value_behind before (ds ++ d ∷ []) ≡ value_behind before ds * 10 + (d - 48)
value_more before [] d = refl
value_more before (c ∷ ds) d = value_more (before * 10 + (c - 48)) ds d

one_more : (n : ℕ) (ds : List ℕ) → 10 ≤ n → Spelt (n / 10) ds → Spelt n (ds ++ (48 + n % 10) ∷ [])
one_more n ds l s =
    let some = s.some in
    let first = s.first (omega arith) in
    record {
      digits = digits_more ds (48 + n % 10) s.digits (digit_is (n % 10) (omega arith));
      some = omega (arith, length-append ds ((48 + n % 10) ∷ []));
      value = value_more 0 ds (48 + n % 10) ∙ (let v = s.value in omega arith);
      alone = λ h. absurd (omega arith);
      first = λ h. subst (λ d. 48 < d) (sym (get_or_append_left ds ((48 + n % 10) ∷ []) 0 0 some)) first;
    }

-- ---- a whole number, one digit after another

abbrev glyph : ℕ → ℕ
glyph digit = 0x30 + digit

whole_positive : (n : ℕ) → 0 < n → whole_text n ≡ map glyph (digits_of 10 n)
whole_positive n h = cond-false _ _ _ (ne_eqb n 0 (λ (e : n ≡ 0). omega arith))

stepped : (n : ℕ) → 0 < n → whole_text n ≡ map glyph (digits_of 10 (n / 10)) ++ (48 + n % 10) ∷ []
stepped n h = whole_positive n h ∙ (ap (map glyph) (digits_of_step 10 n (omega arith) h) ∙ map-append glyph (digits_of 10 (n / 10)) (n % 10 ∷ []))

one_text : (n : ℕ) → n < 10 → whole_text n ≡ (48 + n) ∷ []
one_text zero h = refl
one_text (suc n) h =
    stepped (suc n) (omega arith) ∙ ap₂ (λ (t d : ℕ). map glyph (digits_of 10 t) ++ (48 + d) ∷ []) (let e : suc n / 10 ≡ 0 = omega arith in e) (let e : suc n % 10 ≡ suc n = omega arith in e)

more_text : (n : ℕ) → 10 ≤ n → whole_text n ≡ whole_text (n / 10) ++ (48 + n % 10) ∷ []
more_text n h = stepped n (omega arith) ∙ ap (λ (l : List ℕ). l ++ (48 + n % 10) ∷ []) (sym (whole_positive (n / 10) (omega arith)))

pub tens_text : (n : ℕ) → 0 < n → whole_text (n * 10) ≡ whole_text n ++ 0x30 ∷ []
tens_text n h =
    more_text (n * 10) (omega arith) ∙ ap₂ (λ (t d : ℕ). whole_text t ++ (48 + d) ∷ []) (let e : n * 10 / 10 ≡ n = omega arith in e) (let e : n * 10 % 10 ≡ 0 = omega arith in e)

within_spelt : (bound n : ℕ) → n ≤ bound → Spelt n (whole_text n)
within_spelt zero n h = subst (Spelt n) (sym (one_text n (omega arith))) (one_digit n (omega arith))
within_spelt (suc bound) n h = elim (cases_lt n 10) [
  | inl l ↦ subst (Spelt n) (sym (one_text n l)) (one_digit n l)
  | inr l ↦ subst (Spelt n) (sym (more_text n l)) (one_more n (whole_text (n / 10)) l (within_spelt bound (n / 10) (omega arith)))
]

pub spelt : (n : ℕ) → Spelt n (whole_text n)
spelt n = within_spelt n n (omega arith)

pub spelt_some : (n : ℕ) (ds : List ℕ) → Spelt n ds → AreSomeDigits ds
spelt_some n [] s = let h = s.some in absurd (omega arith)
spelt_some n (d ∷ ds) s = s.digits

pub spelt_int : (n : ℕ) (ds : List ℕ) → Spelt n ds → IsInt ds
spelt_int n [] s = let h = s.some in absurd (omega arith)
spelt_int n (d ∷ []) s = s.digits.0
spelt_int n (d ∷ e ∷ ds) s = (s.digits.0, ne_eqb d 0x30 (λ (z : d ≡ 0x30). not_zero z), s.digits.1)
  where
    not_zero : d ≡ 0x30 → ⊥
    not_zero z = ⊎_elim (λ l. let a = s.alone l in omega arith) (λ l. let f = s.first (omega arith) in omega arith) (cases_lt n 10)

pub zero_digits : whole_text 0 ≡ 48 ∷ []
zero_digits = refl

-- ---- how many digits there are

pub short_digits : (n : ℕ) → n < 10 ^ 15 → length (whole_text n) ≤ 15
short_digits n h =
    cond_both (n == 0) (0x30 ∷ []) (map glyph (digits_of 10 n)) (λ l. length l ≤ 15) (λ e. omega arith) (λ e. let a = length-map (digits_of 10 n) glyph in let b = length-digits_of-le 10 15 n (omega arith) h in omega (arith, a, b))
