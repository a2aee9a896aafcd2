-- The text of a normalized path is a query: what spells it, scalar by scalar.
use Rattle.std.proofs.Common.{◌≡◌, ◌≢◌, ℕ, zero, suc, ◌+◌, ◌/◌, ◌%◌, ◌<◌, ◌≤◌, ⊎_elim, pos, negsuc, List, [], ◌∷◌, ◌++◌, flat_map, get_or, Bool, true, false, ◌==◌, None, is_some, nat_lt, codes, decimal, refl, sym, ap, subst, ◌∙◌, append_assoc, arith}
use Rattle.std.specs.Char.{IsScalar}
use lib.Utf8.{scalar, scalars, low_scalar}
use Rattle.std.proofs.lemmas.Bool.{cond_both, eqb-true, eqb-false, ltb-true, ltb-false, ne_eqb, le-leb, and_from, cases_eq, and_parts}
use Rattle.std.proofs.lemmas.Bool.Decides.{nat_tests}
use Rattle.std.proofs.lemmas.Fmt.{digits_decimal, digits_value-decimal, first_decimal, decimal_digit}
use Rattle.std.proofs.lemmas.Str.{chars-encodes}
use Rattle.jp_model.proofs.Digits.{digits_model}
use Rattle.jp_model.specs.Characters.{is_digit, is_surrogate}
use Rattle.jp_model.specs.Json.Numbers.{AreDigits}
use Rattle.jp_model.specs.Meaning.Paths.{hex_digit, name_scalar, step_text, steps_text, path_text}
use Rattle.jp_model.specs.Query.Limits.{Tests, segments_pass, selector_passes, is_exact, literal_small, has_exact_integers, has_small_exponents, knows_functions}
use Rattle.jp_model.specs.Query.Singular.{steps_query, step_selector}
use Rattle.jp_model.specs.Query.Spelling.{Run, run_ends, run_goes_on, Blanks, is_plain, Positive, positive, Int, zero_int, positive_int, hex4, escaped_b, escaped_f, escaped_n, escaped_r, escaped_t, escaped_backslash, escaped_scalar, Quoted, closing_quote, plain, other_quote, escaped_quote, escaped, single_quoted, IsSegments, segments_end, segments_go_on, child_brackets, brackets, selectors_end, IsSelector, quoted_name, index_int, SpellsQuery, query}
use Rattle.jp_model.specs.Query.Status.{TextSpells, fault_of_query}
use Rattle.jp_model.specs.Query.Syntax.{Segments, Literal}
use Rattle.jp_model.specs.Query.Typing.{segments_typed, selector_typed, signature_of}
use Rattle.jp_model.specs.Steps.{Step, name_step, index_step}
use Rattle.jp_laws.proofs.HexDigits.{low_is}
use Rattle.jp_laws.proofs.Locations.{IsShown}
use Rattle.jp_laws.proofs.Reached.{Each}

-- ---- the scalar of a name, by cases

pub name_scalar_by : (c : ℕ) (P : List ℕ → Type 0) → (c ≡ 8 → P (codes "\\b")) → (c ≡ 9 → P (codes "\\t")) → (c ≡ 10 → P (codes "\\n")) → (c ≡ 12 → P (codes "\\f")) → (c ≡ 13 → P (codes "\\r")) → (c ≡ 39 → P (codes "\\'")) → (c ≡ 92 → P (codes "\\\\"))
    → (c < 32 → P (codes "\\u00" ++ hex_digit (c / 16) ∷ hex_digit (c % 16) ∷ [])) → (32 ≤ c → c ≢ 39 → c ≢ 92 → P (c ∷ [])) → P (name_scalar c)
name_scalar_by c P b t n f r q s h o =
    cond_both (c == 8) _ _ P (λ e. b (eqb-true c 8 e)) (λ e.
    cond_both (c == 9) _ _ P (λ e. t (eqb-true c 9 e)) (λ e.
    cond_both (c == 10) _ _ P (λ e. n (eqb-true c 10 e)) (λ e.
    cond_both (c == 12) _ _ P (λ e. f (eqb-true c 12 e)) (λ e.
    cond_both (c == 13) _ _ P (λ e. r (eqb-true c 13 e)) (λ e.
    cond_both (c == 39) _ _ P (λ e. q (eqb-true c 39 e)) (λ single.
    cond_both (c == 92) _ _ P (λ e. s (eqb-true c 92 e)) (λ back.
    cond_both (nat_lt c 32) _ _ P (λ e. h (ltb-true c 32 e)) (λ e. o (ltb-false c 32 e) (eqb-false c 39 single) (eqb-false c 92 back)))))))))

-- ---- scalars

scalars_append : (xs ys : List ℕ) → scalars xs ≡ true → scalars ys ≡ true → scalars (xs ++ ys) ≡ true
scalars_append [] ys h g = g
scalars_append (x ∷ xs) ys h g = let p = and_parts (scalar x) (scalars xs) h in and_from _ _ p.0 (scalars_append xs ys p.1 g)

hex_range : (n : ℕ) → n < 16 → hex_digit n < 128
hex_range n h = cond_both (nat_lt n 10) (48 + n) (87 + n) (λ x. x < 128) (λ e. omega arith) (λ e. omega arith)

name_scalar_scalars : (c : ℕ) → IsScalar c → scalars (name_scalar c) ≡ true
name_scalar_scalars c h = name_scalar_by c (λ l. scalars l ≡ true) (λ e. refl) (λ e. refl) (λ e. refl) (λ e. refl) (λ e. refl) (λ e. refl) (λ e. refl)
    (λ l. let a = hex_range (c / 16) (omega arith) in let b = hex_range (c % 16) (omega arith) in and_from _ _ (low_scalar (hex_digit (c / 16)) (omega arith)) (and_from _ _ (low_scalar (hex_digit (c % 16)) (omega arith)) refl))
    (λ l n m. and_from _ _ h refl)

name_scalars : (x : List ℕ) → Each IsScalar x → scalars (flat_map name_scalar x) ≡ true
name_scalars [] a = refl
name_scalars (c ∷ x) a = scalars_append (name_scalar c) (flat_map name_scalar x) (name_scalar_scalars c a.0) (name_scalars x a.1)

digit_scalar : (d : ℕ) → is_digit d ≡ true → scalar d ≡ true
digit_scalar d h = low_scalar d (let l : d < 128 = grind (arith, nat_tests, h) in omega arith)

digit_scalars : (ds : List ℕ) → AreDigits ds → scalars ds ≡ true
digit_scalars [] a = refl
digit_scalars (d ∷ ds) a = and_from _ _ (digit_scalar d a.0) (digit_scalars ds a.1)

-- ---- decimal digits

digits_run : (ds y : List ℕ) → AreDigits ds → Run is_digit (ds ++ y) y ds
digits_run [] y a = run_ends
digits_run (d ∷ ds) y a = run_goes_on a.0 (digits_run ds y a.1)

pub positive_digits : (ds y : List ℕ) → AreDigits ds → 48 < get_or ds 0 0 → Positive (ds ++ y) y ds
positive_digits [] y a h = absurd (omega (arith, h))
positive_digits (d ∷ ds) y a h = positive a.0 (λ (e : d ≡ 48). omega (arith, h)) (digits_run ds y a.1)

index_spelled : (k : ℕ) (y : List ℕ) → k ≤ 9007199254740991 → Int (decimal k ++ y) y (pos k)
index_spelled zero y h = subst (λ ds. Int (ds ++ y) y (pos 0)) (sym (decimal_digit 0 (omega arith))) zero_int
index_spelled (suc k) y h =
    subst (λ n. Int (decimal (suc k) ++ y) y (pos n)) (digits_value-decimal digits_model (suc k) (omega arith))
    (positive_int (positive_digits (decimal (suc k)) y (digits_decimal digits_model (suc k) (omega arith)) (first_decimal (suc k) (omega arith) (omega arith))))

-- ---- names

no_surrogate : (c : ℕ) → c < 32 → is_surrogate c ≡ false
no_surrogate c h = grind (arith, nat_tests, h)

plain_scalar : (c : ℕ) → 32 ≤ c → c ≢ 34 → c ≢ 39 → c ≢ 92 → is_plain c ≡ true
plain_scalar c h a b d = rw (le-leb 32 c h, ne_eqb c 34 a, ne_eqb c 39 b, ne_eqb c 92 d) refl

one_quoted : (c : ℕ) (w y x : List ℕ) → Quoted 39 w y x → Quoted 39 (name_scalar c ++ w) y (c ∷ x)
one_quoted c w y x rest =
    name_scalar_by c (λ l. Quoted 39 (l ++ w) y (c ∷ x))
    (λ e. subst (λ n. Quoted 39 (92 ∷ 98 ∷ w) y (n ∷ x)) (sym e) (escaped escaped_b rest))
    (λ e. subst (λ n. Quoted 39 (92 ∷ 116 ∷ w) y (n ∷ x)) (sym e) (escaped escaped_t rest))
    (λ e. subst (λ n. Quoted 39 (92 ∷ 110 ∷ w) y (n ∷ x)) (sym e) (escaped escaped_n rest))
    (λ e. subst (λ n. Quoted 39 (92 ∷ 102 ∷ w) y (n ∷ x)) (sym e) (escaped escaped_f rest))
    (λ e. subst (λ n. Quoted 39 (92 ∷ 114 ∷ w) y (n ∷ x)) (sym e) (escaped escaped_r rest))
    (λ e. subst (λ n. Quoted 39 (92 ∷ 39 ∷ w) y (n ∷ x)) (sym e) (escaped_quote rest))
    (λ e. subst (λ n. Quoted 39 (92 ∷ 92 ∷ w) y (n ∷ x)) (sym e) (escaped escaped_backslash rest))
    (λ l. escaped (escaped_scalar (hex4 (low_is c l)) (no_surrogate c l)) rest)
    (λ l n m. ⊎_elim (λ e. subst (λ k. Quoted 39 (k ∷ w) y (k ∷ x)) (sym e) (other_quote refl (λ (f : 34 ≡ 39). omega arith) rest)) (λ e. plain (plain_scalar c l e n m) rest) (cases_eq c 34))

pub name_quoted : (x y : List ℕ) → Quoted 39 (flat_map name_scalar x ++ 39 ∷ y) y x
name_quoted [] y = closing_quote
name_quoted (c ∷ x) y = subst (λ l. Quoted 39 l y (c ∷ x)) (sym (append_assoc (name_scalar c) (flat_map name_scalar x) (39 ∷ y))) (one_quoted c (flat_map name_scalar x ++ 39 ∷ y) y x (name_quoted x y))

-- ---- steps and paths

close : (x : List ℕ) → Blanks x x
close x = ([], run_ends)

step_goes_on : (s : Step) (ss : List Step) (w y : List ℕ) → IsSelector w (93 ∷ y) (step_selector s) → IsSegments y [] (steps_query ss) → IsSegments (91 ∷ w) [] (steps_query (s ∷ ss))
step_goes_on s ss w y h g = segments_go_on (close (91 ∷ w)) (child_brackets (brackets (close w) h selectors_end (close (93 ∷ y)))) g

name_regroup : (f y : List ℕ) → f ++ 39 ∷ [] ++ 93 ∷ [] ++ y ≡ f ++ 39 ∷ 93 ∷ y
name_regroup f y = ap (λ l. l ++ y) (append_assoc f (39 ∷ []) (93 ∷ [])) ∙ append_assoc f (39 ∷ 93 ∷ []) y

step_spelled : (s : Step) (ss : List Step) (y : List ℕ) → IsShown s → IsSegments y [] (steps_query ss) → IsSegments (step_text s ++ y) [] (steps_query (s ∷ ss))
step_spelled (name_step x) ss y h g =
    subst (λ l. IsSegments (91 ∷ 39 ∷ l) [] (steps_query (name_step x ∷ ss))) (sym (name_regroup (flat_map name_scalar x) y))
    (step_goes_on (name_step x) ss (39 ∷ (flat_map name_scalar x ++ 39 ∷ 93 ∷ y)) y (quoted_name (single_quoted (name_quoted x (93 ∷ y)))) g)
step_spelled (index_step (pos k)) ss y h g =
    subst (λ l. IsSegments (91 ∷ l) [] (steps_query (index_step (pos k) ∷ ss))) (sym (append_assoc (decimal k) (93 ∷ []) y))
    (step_goes_on (index_step (pos k)) ss (decimal k ++ 93 ∷ y) y (index_int (index_spelled k (93 ∷ y) h)) g)
step_spelled (index_step (negsuc k)) ss y h g = absurd h

steps_spelled : (steps : List Step) → Each IsShown steps → IsSegments (steps_text steps) [] (steps_query steps)
steps_spelled [] a = segments_end
steps_spelled (s ∷ ss) a = step_spelled s ss (steps_text ss) a.0 (steps_spelled ss a.1)

step_scalars : (s : Step) → IsShown s → scalars (step_text s) ≡ true
step_scalars (name_step x) h = scalars_append (91 ∷ (39 ∷ flat_map name_scalar x ++ 39 ∷ [])) (93 ∷ []) (scalars_append (flat_map name_scalar x) (39 ∷ []) (name_scalars x h) refl) refl
step_scalars (index_step (pos k)) h = scalars_append (91 ∷ decimal k) (93 ∷ []) (digit_scalars (decimal k) (digits_decimal digits_model k (omega arith))) refl
step_scalars (index_step (negsuc k)) h = absurd h

steps_scalars : (steps : List Step) → Each IsShown steps → scalars (steps_text steps) ≡ true
steps_scalars [] a = refl
steps_scalars (s ∷ ss) a = scalars_append (step_text s) (steps_text ss) (step_scalars s a.0) (steps_scalars ss a.1)

pub path_spelled : (steps : List Step) → Each IsShown steps → TextSpells (path_text steps) (steps_query steps)
path_spelled steps a =
    let cs : List ℕ = 36 ∷ steps_text steps in
    let sound : scalars cs ≡ true = steps_scalars steps a in
    ((cs, (sound, refl)), subst (λ x. SpellsQuery x (steps_query steps)) (sym (chars-encodes cs sound)) (query (steps_spelled steps a)))

-- ---- no fault

all_pass : (T : Tests) → (steps : List Step) → Each (λ s. selector_passes (step_selector s) T ≡ true) steps → segments_pass (steps_query steps) T ≡ true
all_pass T [] a = refl
all_pass T (s ∷ ss) a = and_from _ _ (and_from _ _ a.0 refl) (all_pass T ss a.1)

exact_step : (s : Step) → IsShown s → selector_passes (step_selector s) (record { integer = is_exact; literal = λ c. true; function = λ f. true }) ≡ true
exact_step (name_step x) h = refl
exact_step (index_step (pos k)) h = le-leb k 9007199254740991 h
exact_step (index_step (negsuc k)) h = absurd h

other_step : (s : Step) (literal : Literal → Bool) (function : List ℕ → Bool) → selector_passes (step_selector s) (record { integer = λ i. true; literal = literal; function = function }) ≡ true
other_step (name_step x) l f = refl
other_step (index_step i) l f = refl

each_exact : (steps : List Step) → Each IsShown steps → Each (λ s. selector_passes (step_selector s) (record { integer = is_exact; literal = λ c. true; function = λ f. true }) ≡ true) steps
each_exact [] a = tt
each_exact (s ∷ ss) a = (exact_step s a.0, each_exact ss a.1)

each_other : (literal : Literal → Bool) (function : List ℕ → Bool) (steps : List Step) → Each (λ s. selector_passes (step_selector s) (record { integer = λ i. true; literal = literal; function = function }) ≡ true) steps
each_other l f [] = tt
each_other l f (s ∷ ss) = (other_step s l f, each_other l f ss)

step_typed : (s : Step) → selector_typed (step_selector s) ≡ true
step_typed (name_step x) = refl
step_typed (index_step i) = refl

steps_typed : (steps : List Step) → segments_typed (steps_query steps) ≡ true
steps_typed [] = refl
steps_typed (s ∷ ss) = and_from _ _ (and_from _ _ (step_typed s) refl) (steps_typed ss)

no_fault_by : (q : Segments) → has_exact_integers q ≡ true → has_small_exponents q ≡ true → knows_functions q ≡ true → segments_typed q ≡ true → fault_of_query q ≡ None
no_fault_by q a b c d = rw (a, b, c, d) refl

pub path_sound : (steps : List Step) → Each IsShown steps → fault_of_query (steps_query steps) ≡ None
path_sound steps a =
    no_fault_by (steps_query steps)
    (all_pass (record { integer = is_exact; literal = λ c. true; function = λ f. true }) steps (each_exact steps a))
    (all_pass (record { integer = λ i. true; literal = literal_small; function = λ f. true }) steps (each_other literal_small (λ f. true) steps))
    (all_pass (record { integer = λ i. true; literal = λ c. true; function = λ f. is_some (signature_of f) }) steps (each_other (λ c. true) (λ f. is_some (signature_of f)) steps))
    (steps_typed steps)
