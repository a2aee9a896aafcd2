-- Values that are no arrays and no objects.
use Rattle.std.proofs.Common.{◌≡◌, ℕ, true, false, List, Option, Some, None, length, take, nat_lt, ◌+◌, ◌<◌, ◌^◌, sym, ◌∙◌, ap, refl, subst, arith, Ordering}
use Rattle.std.proofs.Math.Seq.{take-length}
use Rattle.std.proofs.lemmas.Bool.{cond-true, not-true, and_parts, and_from, ltb-true}
use Rattle.std.proofs.lemmas.Slice.Eq.{bytes_eq-Decides}
use Rattle.jp_model.specs.Characters.{text_equal}
use Rattle.jp_model.specs.Json.Places.{bytes_between, Reads}
use Rattle.jp_model.specs.Json.Numbers.{numeral_bytes, numeral_of, is_long_exponent, mantissa, scale}
use Rattle.jp_model.specs.Json.Reader.{is_numeral, spanned}
use Rattle.jp_model.specs.Json.Tree.{Value, null, boolean, number, string, container}
use Rattle.jp_model.specs.Query.Syntax.{Literal, number_literal}
use Rattle.jp_model.proofs.Reader.Lexical.{clash}
use Rattle.jp_model.proofs.Reader.Numbers.{number_found}
use Rattle.jp_model.proofs.Reader.Scans.{reads_whole}
use Rattle.jp_decimal.specs.Reading.{RefusesNumber}
use Rattle.jp_decimal.specs.declared.fault.NumberFault.{NumberFault}
use Rattle.jp_decimal.specs.declared.fault.NumberFault.TheVariants.{Shape, Exponent}
use Rattle.jp_syntax.specs.Sound.{is_sound}
use Rattle.std.specs.Cmp.Lexicographic.{slice_cmp}
use Rattle.std.specs.Ordering.{nat_cmp, is_lt}
use Rattle.std.proofs.lemmas.Bool.Decides.{nat_tests}
use Rattle.std.proofs.lemmas.Cmp.{same_from_slice_cmp}
use Rattle.jp_model.specs.Meaning.Compare.{text_less, value_less, is_less}
use Rattle.jp_values.specs.Scalars.{scalar_in}
use Rattle.jp_values.specs.Values.{scalar_side}

-- a text is less than another where its scalars come first
pub text_less_is : (xs ys : List ℕ) (o : Ordering) → o ≡ slice_cmp nat_cmp xs ys → is_lt o ≡ text_less xs ys
text_less_is = same_from_slice_cmp nat_cmp is_lt text_less refl (λ _ _. refl) (λ _ _. refl) (λ x y xs ys o h. grind (arith, nat_tests))

-- arrays and objects are less than nothing, and nothing is less than they
none_less : (o : Option Value) → is_less o None ≡ false
none_less None = refl
none_less (Some v) = refl

not_less : (v w : Value) → ((x : Value) → value_less v x ≡ false) → is_less (Some v) (scalar_in w) ≡ value_less v w
not_less v null h = h null ∙ sym (h null)
not_less v (boolean b) h = h (boolean b) ∙ sym (h (boolean b))
not_less v (number m e) h = h (number m e) ∙ sym (h (number m e))
not_less v (string points) h = h (string points) ∙ sym (h (string points))
not_less v (container kind children) h = sym (h (container kind children))

pub scalars_less : (v w : Value) → is_less (scalar_in v) (scalar_in w) ≡ value_less v w
scalars_less null w = not_less null w (λ x. refl)
scalars_less (boolean b) w = not_less (boolean b) w (λ x. refl)
scalars_less (number m e) null = refl
scalars_less (number m e) (boolean b) = refl
scalars_less (number m e) (number n f) = refl
scalars_less (number m e) (string points) = refl
scalars_less (number m e) (container kind children) = refl
scalars_less (string points) null = refl
scalars_less (string points) (boolean b) = refl
scalars_less (string points) (number n f) = refl
scalars_less (string points) (string other) = refl
scalars_less (string points) (container kind children) = refl
scalars_less (container kind children) w = refl

pub sides_less : (o p : Option Value) → is_less (scalar_side o) (scalar_side p) ≡ is_less o p
sides_less None p = refl
sides_less (Some v) None = none_less (scalar_in v)
sides_less (Some v) (Some w) = scalars_less v w

-- ---- literals

whole_range : (x : List ℕ) → bytes_between x 0 (length x) ≡ x
whole_range x = ap (λ n. take n x) (omega arith) ∙ take-length x

-- its bytes can be counted in thirty-two bits
pub literal_short : (x : List ℕ) → is_sound (number_literal x) ≡ true → length x < 4294967296
literal_short x h = ltb-true (length x) (2 ^ 32) (and_parts _ (nat_lt (length x) (2 ^ 32)) h).1

-- a number that is written in a query is one
pub literal_is_read : (x : List ℕ) (fault : NumberFault) → is_sound (number_literal x) ≡ true → RefusesNumber x fault → ⊥
literal_is_read x Shape h r =
    let sound = and_parts _ (nat_lt (length x) (2 ^ 32)) h in
    let parts = and_parts (text_equal (numeral_bytes (numeral_of x)) x) _ sound.0 in
    let more = and_parts (is_numeral (numeral_of x)) _ parts.1 in
    let same : numeral_bytes (numeral_of x) ≡ x = (bytes_eq-Decides (numeral_bytes (numeral_of x)) x).0 parts.0 in
    let there : Reads x 0 (length x) (numeral_bytes (numeral_of x)) = record { order = omega arith; within = omega arith; are = whole_range x ∙ sym same } in
    let found = number_found x 0 (numeral_of x) (spanned 0 (0 + length (numeral_bytes (numeral_of x))) (number (mantissa (numeral_of x)) (scale (numeral_of x)))) (cond-true _ _ _ (and_from _ _ more.0 (reads_whole x 0 (length x) (numeral_bytes (numeral_of x)) there))) in
    let all : 0 + length (numeral_bytes (numeral_of x)) ≡ length x = let l = ap length same in omega (arith, l) in
    let spelled : numeral_bytes found.0.numeral ≡ x = sym found.0.bytes.are ∙ (ap (λ n. bytes_between x 0 n) all ∙ whole_range x) in
    r found.0.numeral found.0.correct spelled
literal_is_read x Exponent h r =
    let sound = and_parts _ (nat_lt (length x) (2 ^ 32)) h in
    let parts = and_parts (text_equal (numeral_bytes (numeral_of x)) x) _ sound.0 in
    let more = and_parts (is_numeral (numeral_of x)) _ parts.1 in
    clash _ (ap is_long_exponent r.spells.only ∙ r.long) (not-true _ more.1)

-- the same of a literal whose spelling is read where it lies
pub spelling_short : (l : Literal) (x bytes : List ℕ) → l ≡ number_literal x → is_sound l ≡ true → bytes ≡ x → length bytes < 4294967296
spelling_short l x bytes is sound same = subst (λ (b : List ℕ). length b < 4294967296) (sym same) (literal_short x (subst (λ (m : Literal). is_sound m ≡ true) is sound))

pub spelling_is_read : (l : Literal) (x bytes : List ℕ) (fault : NumberFault) → l ≡ number_literal x → is_sound l ≡ true → bytes ≡ x → RefusesNumber bytes fault → ⊥
spelling_is_read l x bytes fault is sound same refused = literal_is_read x fault (subst (λ (m : Literal). is_sound m ≡ true) is sound) (subst (λ (b : List ℕ). RefusesNumber b fault) same refused)
