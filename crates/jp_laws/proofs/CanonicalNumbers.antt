-- Numbers of one value have one canonical text, and it spells a number of that value.
use Rattle.std.proofs.Common.{◌≡◌, ℕ, zero, suc, ◌+◌, ◌*◌, ◌^◌, ◌<◌, ◌≤ℤ◌, Bool, true, false, cond, ◌==◌, nat_abs, List, [], ◌∷◌, length, Equal, refl, sym, ap, ap₂, ◌∙◌, ℤ, pos, ◌+ℤ◌, ◌-ℤ◌, ◌*ℤ◌, arith}
use Rattle.std.specs.Prelude.{int_lt}
use Rattle.std.specs.Ordering.{int_cmp}
use Rattle.std.proofs.lemmas.Bool.{eqb-false}
use Rattle.std.proofs.lemmas.Bool.Decides.{nat_tests}
use Rattle.std.proofs.lemmas.Int.{ints}
use Rattle.std.proofs.lemmas.List.{length-append}
use Rattle.jp_canon.specs.Layout.{whole_text, without_trailing_zeros, with_point, size_text, number_text}
use Rattle.jp_model.specs.Json.Numbers.{smaller, brought_to, number_equal}
use Rattle.jp_laws.proofs.CanonicalDigits.{trimmed_push}
use Rattle.jp_laws.proofs.DigitTexts.{tens_text}
use Rattle.jp_laws.proofs.NumberOrder.{is_equal}
use Rattle.jp_laws.proofs.OrderedValues.{ten_times, ten_more}
use Rattle.jp_laws.proofs.Shifted.{ten, lower}

-- ---- one text

size_tens : (a : ℕ) (f : ℤ) → 0 < a → size_text (a * 10) (lower f) ≡ size_text a f
size_tens a f h =
    ap₂ with_point (ap without_trailing_zeros (tens_text a h) ∙ trimmed_push (whole_text a))
    (ap (λ (l : List ℕ). pos (length l) +ℤ lower f) (tens_text a h) ∙ (ap (λ n. pos n +ℤ lower f) (length-append (whole_text a) (0x30 ∷ [])) ∙ moved (length (whole_text a)) f))
  where
    moved : (l : ℕ) (f : ℤ) → pos (l + 1) +ℤ lower f ≡ pos l +ℤ f
    moved l f = omega (arith, ints)

abs_ten : (m : ℤ) → nat_abs (ten m) ≡ nat_abs m * 10
abs_ten m = omega (arith, ints)

sign_ten : (m : ℤ) → int_lt (ten m) (pos 0) ≡ int_lt m (pos 0)
sign_ten m = grind (arith, ints)

none_ten : (a : ℕ) → (a * 10 == 0) ≡ (a == 0)
none_ten a = grind (arith, nat_tests)

-- a number by its sign and its size
abbrev laid : Bool → Bool → List ℕ → List ℕ
laid none minus size = cond none (0x30 ∷ []) (cond minus (0x2D ∷ size) size)

pub tens : (m e : ℤ) → number_text (ten m) (lower e) ≡ number_text m e
tens m e =
    ap₂ (λ (a : ℕ) (b : Bool). laid (a == 0) b (size_text a (lower e))) (abs_ten m) (sign_ten m)
    ∙ (ap (λ (n : Bool). laid n (int_lt m (pos 0)) (size_text (nat_abs m * 10) (lower e))) (none_ten (nat_abs m)) ∙ step (nat_abs m == 0) refl)
  where
    step : (none : Bool) → (nat_abs m == 0) ≡ none → laid none (int_lt m (pos 0)) (size_text (nat_abs m * 10) (lower e)) ≡ laid none (int_lt m (pos 0)) (size_text (nat_abs m) e)
    step true h = refl
    step false h = ap (laid false (int_lt m (pos 0))) (size_tens (nat_abs m) e (let n = eqb-false (nat_abs m) 0 h in omega arith))

shifted_text : (k : ℕ) (m e : ℤ) → number_text (m *ℤ pos (10 ^ k)) (e -ℤ pos k) ≡ number_text m e
shifted_text zero m e = ap₂ number_text (let h : m *ℤ pos (10 ^ 0) ≡ m = omega (arith, ints) in h) (let h : e -ℤ pos 0 ≡ e = omega (arith, ints) in h)
shifted_text (suc k) m e =
    ap₂ number_text (ap (λ p. m *ℤ pos p) (ten_times k) ∙ ten_more m (10 ^ k)) (let h : e -ℤ pos (suc k) ≡ lower (e -ℤ pos k) = omega (arith, ints) in h)
    ∙ (tens (m *ℤ pos (10 ^ k)) (e -ℤ pos k) ∙ shifted_text k m e)

brought_text : (least m e : ℤ) → least ≤ℤ e → number_text (brought_to least m e) least ≡ number_text m e
brought_text least m e h =
    ap (number_text (brought_to least m e)) (let g : least ≡ e -ℤ pos (nat_abs (e -ℤ least)) = omega (arith, ints) in g) ∙ shifted_text (nat_abs (e -ℤ least)) m e

least_left : (e f : ℤ) → smaller e f ≤ℤ e
least_left e f = grind (arith, ints)

least_right : (e f : ℤ) → smaller e f ≤ℤ f
least_right e f = grind (arith, ints)

same_whole : (x y : ℤ) → int_cmp x y ≡ Equal → x ≡ y
same_whole x y h = grind (arith, ints, h)

pub equal_text : (m e n f : ℤ) → number_equal m e n f ≡ true → number_text m e ≡ number_text n f
equal_text m e n f h =
    let least : ℤ = smaller e f in
    sym (brought_text least m e (least_left e f))
    ∙ (ap (λ x. number_text x least) (same_whole (brought_to least m e) (brought_to least n f) (is_equal _ h)) ∙ brought_text least n f (least_right e f))
