-- Names, numbers, strings and marks that stand there are read.
use Rattle.std.proofs.Common.{◌≡◌, ◌∙◌, ℕ, ℤ, zero, suc, ◌≤◌, List, [], ◌∷◌, length, Bool, true, false, cond, ◌||◌, ◌==◌, Option, Some, None, refl, ⊎_elim, arith, le_refl}
use Rattle.std.proofs.lemmas.Bool.{ne_eqb, eq-eqb, or_left, or_right, or_cases, and_parts, and_from, ltb-true, lt-ltb, false_from_ne_true, cond-true, cond-false}
use Rattle.jp_model.specs.Characters.{is_digit, is_lower, is_surrogate, is_high_surrogate, is_low_surrogate, pair_value}
use Rattle.jp_model.specs.Query.Spelling.{Shorthand, shorthand, FunctionName, function_name, Positive, positive, Int, zero_int, positive_int, negative_int, Hex4, hex4, Escape, escaped_b, escaped_f, escaped_n, escaped_r, escaped_t, escaped_slash, escaped_backslash, escaped_scalar, escaped_pair, Quoted, closing_quote, plain, other_quote, escaped_quote, escaped, StringLiteral, double_quoted, single_quoted, IsOp, equal_op, not_equal_op, less_equal_op, greater_equal_op, less_op, greater_op, is_name_first, is_name_scalar, is_function_scalar, is_plain}
use Rattle.jp_model.specs.Query.Syntax.{CompareOp}
use Rattle.jp_query.specs.Reading.Scalars as r
use Rattle.jp_query.specs.Reading.Scalars.{Item, is_item, many, call_start}
use Rattle.jp_query.specs.Reading.Numbers as numbers
use Rattle.jp_query.specs.Reading.Numbers.{is_positive_digit, is_int_first, int_at}
use Rattle.jp_query.specs.Reading.Strings as strings
use Rattle.jp_query.specs.Reading.Strings.{low_half, hex_scalar, escape_at, next_scalar, between_quotes, string_at}
use Rattle.jp_query.specs.Reading.Literals.{is_any_quote, operator_at, origin_at}
use Rattle.jp_query.proofs.Shrinks.{escape_shrinks}
use Rattle.jp_query.proofs.Follows.{head, next, ends_segment, segment_head, apart, after_none, not_there, stops, stops_at, named_reads, named_none}

pub longer : (c : ℕ) (x : List ℕ) → length x ≤ length (c ∷ x)
longer c x = omega arith

pub many_stops : {A : Type 0} (item : Item A) (n : ℕ) (x : List ℕ) → item x ≡ Some None → many item n x ≡ Some ([], x)
unfolding many
many_stops item zero x h = refl
many_stops item (suc n) x h = rw h refl

pub many_goes_on : {A : Type 0} (item : Item A) (n : ℕ) (x y z : List ℕ) (a : A) (others : List A) → item x ≡ Some (Some (a, y)) → many item n y ≡ Some (others, z) → many item (suc n) x ≡ Some (a ∷ others, z)
unfolding many
many_goes_on item n x y z a others h g = rw (h, g) refl

-- ---- names

pub name_stops : (x : List ℕ) → ends_segment (next x) ≡ true → stops is_name_scalar x ≡ true
name_stops x h = stops_at is_name_scalar x (segment_head (λ c. is_name_scalar c ≡ false) refl refl refl refl refl refl refl refl refl refl refl refl refl refl refl refl x h)

pub shorthand_reads : {x y s : List ℕ} → Shorthand x y s → stops is_name_scalar y ≡ true → r.shorthand x ≡ Some (s, y)
unfolding r.shorthand
shorthand_reads (shorthand {c} e more) h = named_reads is_name_first is_name_scalar c e more h

pub shorthand_first : {x y s : List ℕ} → Shorthand x y s → is_name_first (head x) ≡ true
shorthand_first (shorthand e more) = e

pub start_reads : {x y f : List ℕ} → FunctionName x (40 ∷ y) f → call_start x ≡ Some (f, y)
unfolding call_start r.function_name
start_reads (function_name {c} e more) = rw (named_reads is_lower is_function_scalar c e more refl) refl

pub function_first : {x y f : List ℕ} → FunctionName x y f → is_lower (head x) ≡ true
function_first (function_name e more) = e

-- no call begins there
pub no_start : (x : List ℕ) → is_lower (head x) ≡ false → call_start x ≡ None
unfolding call_start r.function_name
no_start x h = rw (named_none is_lower is_function_scalar x h) refl

-- ---- ints

pub positive_reads : {x y s : List ℕ} → Positive x y s → stops is_digit y ≡ true → numbers.positive x ≡ Some (s, y)
unfolding numbers.positive
positive_reads (positive {c} e g more) h =
    let n : (c == 48) ≡ false = ne_eqb c 48 g in
    let first : is_positive_digit c ≡ true = rw (e, n) refl in
    named_reads is_positive_digit is_digit c first more h

positive_first : {x y s : List ℕ} → Positive x y s → (is_digit (head x) ≡ true) × ((head x == 48) ≡ false)
positive_first (positive {c} e g more) = (e, ne_eqb c 48 g)

pub int_reads : (of_int : ℤ → ℤ) {x y : List ℕ} {i : ℤ} → Int x y i → stops is_digit y ≡ true → int_at of_int x ≡ Some (of_int i, y)
unfolding int_at
int_reads of_int zero_int h = refl
int_reads of_int (positive_int {x} p) h =
    let f = positive_first p in
    rw (after_none 48 x f.1, not_there is_digit 45 x f.0 refl, positive_reads p h) refl
int_reads of_int (negative_int p) h = rw (positive_reads p h) refl

pub int_first : {x y : List ℕ} {i : ℤ} → Int x y i → is_int_first (head x) ≡ true
int_first zero_int = refl
int_first (positive_int {x} p) = or_left (is_digit (head x)) _ (positive_first p).0
int_first (negative_int p) = refl

-- ---- strings

hex4_reads : {x y : List ℕ} {n : ℕ} → Hex4 x y n → strings.hex4 x ≡ Some (n, y)
unfolding strings.hex4
hex4_reads (hex4 e) = rw e refl

low_reads : (high : ℕ) {x y : List ℕ} {l : ℕ} → Hex4 x y l → is_low_surrogate l ≡ true → low_half high (92 ∷ 117 ∷ x) ≡ Some (pair_value high l, y)
unfolding low_half
low_reads high h e = rw (hex4_reads h, e) refl

-- a kind of quote
abbrev IsQuote : ℕ → Type 0
IsQuote quote = (p : ℕ → Bool) → p 34 ≡ false → p 39 ≡ false → p quote ≡ false

no_surrogate : (n : ℕ) → is_surrogate n ≡ false → is_high_surrogate n ≡ false
no_surrogate n h = false_from_ne_true (is_high_surrogate n) (λ e.
    let p = and_parts _ _ e in
    let below = ltb-true n 0xDC00 p.1 in
    let k : is_surrogate n ≡ true = and_from _ _ p.0 (lt-ltb n 0xE000 (omega arith)) in
    absurd (cc))

escape_reads : (quote : ℕ) → IsQuote quote → {x y : List ℕ} {n : ℕ} → Escape x y n → escape_at quote x ≡ Some (n, y)
unfolding escape_at hex_scalar
escape_reads quote q escaped_b = rw (q (λ c. 98 == c) refl refl) refl
escape_reads quote q escaped_f = rw (q (λ c. 102 == c) refl refl) refl
escape_reads quote q escaped_n = rw (q (λ c. 110 == c) refl refl) refl
escape_reads quote q escaped_r = rw (q (λ c. 114 == c) refl refl) refl
escape_reads quote q escaped_t = rw (q (λ c. 116 == c) refl refl) refl
escape_reads quote q escaped_slash = rw (q (λ c. 47 == c) refl refl) refl
escape_reads quote q escaped_backslash = rw (q (λ c. 92 == c) refl refl) refl
escape_reads quote q (escaped_scalar {n} h e) = rw (q (λ c. 117 == c) refl refl, hex4_reads h, no_surrogate n e, e) refl
escape_reads quote q (escaped_pair {h = high} h e l g) = rw (q (λ c. 117 == c) refl refl, hex4_reads h, e) (low_reads high l g)

-- a plain scalar is neither a quote nor a backslash
plain_apart : (c d : ℕ) → is_plain c ≡ true → is_plain d ≡ false → (c == d) ≡ false
plain_apart c d h g = apart is_plain d c h g

plain_read : (quote c : ℕ) (x : List ℕ) → (c == quote) ≡ false → (c == 92) ≡ false → (is_plain c || c == 34 || c == 39) ≡ true → next_scalar quote (c ∷ x) ≡ Some (Some (c, x))
unfolding next_scalar
plain_read quote c x e f g =
    let last : Option (Option (ℕ × List ℕ)) = cond (is_plain c || c == 34 || c == 39) (Some (Some (c, x))) None in
    let behind : Option (Option (ℕ × List ℕ)) = cond (c == 92) (is_item (escape_at quote x)) last in
    cond-false (c == quote) (Some None) behind e ∙ (cond-false (c == 92) (is_item (escape_at quote x)) last f ∙ cond-true (is_plain c || c == 34 || c == 39) (Some (Some (c, x))) None g)

any_quote_apart : (c : ℕ) → (c == 34 || c == 39) ≡ true → (c == 92) ≡ false
any_quote_apart c h = apart is_any_quote 92 c h refl

taken : (b c : ℕ) → (b == 34 || b == 39) ≡ true → (is_plain b || b == 34 || b == 39) ≡ true
taken b c h = ⊎_elim (λ e. or_left (is_plain b || b == 34) (b == 39) (or_right (is_plain b) (b == 34) e)) (λ e. or_right (is_plain b || b == 34) (b == 39) e) (or_cases (b == 34) (b == 39) h)

quote_escaped : (quote : ℕ) (x : List ℕ) → escape_at quote (quote ∷ x) ≡ Some (quote, x)
unfolding escape_at
quote_escaped quote x = rw (eq-eqb quote quote refl) refl

scalars_read : (quote : ℕ) → IsQuote quote → {x y s : List ℕ} → Quoted quote x y s → (n : ℕ) → length x ≤ n → many (next_scalar quote) n x ≡ Some (s, quote ∷ y)
unfolding next_scalar
scalars_read quote q (closing_quote {x}) n l = many_stops (next_scalar quote) n (quote ∷ x) (rw (eq-eqb quote quote refl) refl)
scalars_read quote q (plain e more) zero l = absurd (omega arith)
scalars_read quote q (plain {c} {x} {y} {s} e more) (suc n) l =
    let g : (c == quote) ≡ false = plain_apart c quote e (q is_plain refl refl) in
    many_goes_on (next_scalar quote) n (c ∷ x) x (quote ∷ y) c s (plain_read quote c x g (plain_apart c 92 e refl) (or_left (is_plain c || c == 34) _ (or_left (is_plain c) _ e))) (scalars_read quote q more n (omega arith))
scalars_read quote q (other_quote e g more) zero l = absurd (omega arith)
scalars_read quote q (other_quote {c} {x} {y} {s} e g more) (suc n) l =
    many_goes_on (next_scalar quote) n (c ∷ x) x (quote ∷ y) c s (plain_read quote c x (ne_eqb c quote g) (any_quote_apart c e) (taken c 0 e)) (scalars_read quote q more n (omega arith))
scalars_read quote q (escaped_quote more) zero l = absurd (omega arith)
scalars_read quote q (escaped_quote {x} {y} {s} more) (suc n) l =
    let one : escape_at quote (quote ∷ x) ≡ Some (quote, x) = quote_escaped quote x in
    many_goes_on (next_scalar quote) n (92 ∷ quote ∷ x) x (quote ∷ y) quote s (rw (q (λ c. 92 == c) refl refl, one) refl) (scalars_read quote q more n (omega arith))
scalars_read quote q (escaped e more) zero l = absurd (omega arith)
scalars_read quote q (escaped {c} {x} {y} {z} {s} e more) (suc n) l =
    many_goes_on (next_scalar quote) n (92 ∷ x) y (quote ∷ z) c s (rw (q (λ c. 92 == c) refl refl, escape_reads quote q e) refl) (scalars_read quote q more n (omega (arith, escape_shrinks length longer e)))

double : IsQuote 34
double p e f = e

single : IsQuote 39
single p e f = f

pub string_reads : {x y s : List ℕ} → StringLiteral x y s → string_at x ≡ Some (s, y)
unfolding string_at between_quotes
string_reads (double_quoted {x} q) = rw (scalars_read 34 double q (length x) (le_refl _)) refl
string_reads (single_quoted {x} q) = rw (scalars_read 39 single q (length x) (le_refl _)) refl

pub string_first : {x y s : List ℕ} → StringLiteral x y s → is_any_quote (head x) ≡ true
string_first (double_quoted q) = refl
string_first (single_quoted q) = refl

-- ---- marks

-- neither mark stands there
pub no_origin : (x : List ℕ) → (head x == 64) ≡ false → (head x == 36) ≡ false → origin_at x ≡ None
unfolding origin_at
no_origin x e f = rw (after_none 64 x e, after_none 36 x f) refl

-- an operator, after which no `=` stands
pub operator_reads : {x y : List ℕ} {op : CompareOp} → IsOp x y op → (head y == 61) ≡ false → operator_at x ≡ Some (op, y)
unfolding operator_at
operator_reads equal_op h = refl
operator_reads not_equal_op h = refl
operator_reads less_equal_op h = refl
operator_reads greater_equal_op h = refl
operator_reads (less_op {x}) h = rw (after_none 61 x h) refl
operator_reads (greater_op {x}) h = rw (after_none 61 x h) refl

-- what an operator begins with
abbrev pub is_op_first : ℕ → Bool
is_op_first c = c == 61 || c == 33 || c == 60 || c == 62

pub op_first : {x y : List ℕ} {op : CompareOp} → IsOp x y op → is_op_first (head x) ≡ true
op_first equal_op = refl
op_first not_equal_op = refl
op_first less_equal_op = refl
op_first greater_equal_op = refl
op_first less_op = refl
op_first greater_op = refl
