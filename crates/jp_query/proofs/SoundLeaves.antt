-- What is read of names, numbers, strings and marks is spelled so.
use Rattle.std.proofs.Common.{◌≡◌, ◌≢◌, ℕ, ℤ, pos, neg_ℤ, List, [], ◌∷◌, ◌++◌, length, true, false, cond, not, ◌||◌, ◌==◌, Some, None, refl, sym, ap, subst, ⊎_elim, ◌⊎◌, inl, inr, append-nil}
use Rattle.std.proofs.lemmas.Bool.{and_parts, eqb-true, eqb-false, or_cases}
use Rattle.jp_model.specs.Characters.{is_digit, is_lower, digits_value, four_digits, is_surrogate, is_high_surrogate, is_low_surrogate, pair_value}
use Rattle.jp_model.specs.Query.Spelling as s
use Rattle.jp_model.specs.Query.Spelling.{Shorthand, FunctionName, Positive, Int, Hex4, Escape, Quoted, StringLiteral, IsOp, IsOrigin, is_name_first, is_name_scalar, is_function_scalar, is_plain}
use Rattle.jp_model.specs.Query.Syntax as syntax
use Rattle.jp_model.specs.Query.Syntax.{CompareOp, Origin}
use Rattle.jp_query.specs.Reading.Scalars.{after, after_all, many, shorthand, function_name, call_start}
use Rattle.jp_query.specs.Reading.Numbers.{positive, is_positive_digit, int_at}
use Rattle.jp_query.specs.Reading.Strings.{hex4, low_half, hex_scalar, escaped_letter, escape_at, next_scalar, between_quotes, string_at}
use Rattle.jp_query.specs.Reading.Literals.{origin_at, operator_at}
use Rattle.jp_query.proofs.LawTools.{bind_some, chosen, decided, cond_some, some_same, as_read, after_is, after_all_is, named_stands, many_sound, is_item_some}

pub shorthand_sound : (x : List ℕ) (r : List ℕ × List ℕ) → shorthand x ≡ Some r → Shorthand x r.1 r.0
unfolding shorthand
shorthand_sound x r h = named_stands is_name_first is_name_scalar Shorthand (λ c x y t e more. s.shorthand e more) x r h

pub function_sound : (x : List ℕ) (r : List ℕ × List ℕ) → function_name x ≡ Some r → FunctionName x r.1 r.0
unfolding function_name
function_sound x r h = named_stands is_lower is_function_scalar FunctionName (λ c x y t e more. s.function_name e more) x r h

-- the name of a call, with what stands after its parenthesis
pub start_sound : (x : List ℕ) (r : List ℕ × List ℕ) → call_start x ≡ Some r → FunctionName x (40 ∷ r.1) r.0
unfolding call_start
start_sound x r h =
    let a = bind_some (function_name x) _ r h in
    let b = bind_some (after 40 a.0.1) _ r a.2 in
    as_read (λ y f. FunctionName x (40 ∷ y) f) _ r b.2 (subst (λ z. FunctionName x z a.0.0) (after_is 40 a.0.1 b.0 b.1) (function_sound x a.0 a.1))

not_zero : (c : ℕ) → not (c == 48) ≡ true → c ≢ 48
not_zero c h e = let k : not (48 == 48) ≡ true = subst (λ d. not (d == 48) ≡ true) e h in absurd (cc)

positive_sound : (x : List ℕ) (r : List ℕ × List ℕ) → positive x ≡ Some r → Positive x r.1 r.0
unfolding positive
positive_sound x r h = named_stands is_positive_digit is_digit Positive (λ c x y t e more. let p = and_parts _ _ e in s.positive p.0 (not_zero c p.1) more) x r h

-- an int whose value is this one, as it is put into the tree
abbrev pub IntRead : (ℤ → ℤ) → List ℕ → List ℕ → ℤ → Type 0
IntRead of_int x y v = (i : ℤ) × Int x y i × (of_int i ≡ v)

pub int_sound : (of_int : ℤ → ℤ) (x : List ℕ) (r : ℤ × List ℕ) → int_at of_int x ≡ Some r → IntRead of_int x r.1 r.0
unfolding int_at
int_sound of_int x r h = ⊎_elim
    (λ a. as_read (IntRead of_int x) _ r a.2 (pos 0, subst (λ z. Int z a.0 (pos 0)) (sym (after_is 48 x a.0 a.1)) s.zero_int, refl))
    (λ a. ⊎_elim
    (λ b.
    let c = bind_some (positive b.0) _ r b.2 in
    as_read (IntRead of_int x) _ r c.2 (neg_ℤ (pos (digits_value c.0.0)), subst (λ z. Int z c.0.1 (neg_ℤ (pos (digits_value c.0.0)))) (sym (after_is 45 x b.0 b.1)) (s.negative_int (positive_sound b.0 c.0 c.1)), refl))
    (λ b.
    let c = bind_some (positive x) _ r b.1 in
    as_read (IntRead of_int x) _ r c.2 (pos (digits_value c.0.0), s.positive_int (positive_sound x c.0 c.1), refl))
    (chosen (after 45 x) _ _ (Some r) a.1))
    (chosen (after 48 x) _ _ (Some r) h)

-- ---- strings

hex4_sound : (x : List ℕ) (r : ℕ × List ℕ) → hex4 x ≡ Some r → Hex4 x r.1 r.0
unfolding hex4
hex4_sound [] r h = absurd (cc)
hex4_sound (a ∷ []) r h = absurd (cc)
hex4_sound (a ∷ b ∷ []) r h = absurd (cc)
hex4_sound (a ∷ b ∷ c ∷ []) r h = absurd (cc)
hex4_sound (a ∷ b ∷ c ∷ d ∷ x) r h =
    let p = bind_some (four_digits a b c d) _ r h in
    as_read (λ y n. Hex4 (a ∷ b ∷ c ∷ d ∷ x) y n) _ r p.2 (s.hex4 p.1)

abbrev LowHalf : ℕ → List ℕ → List ℕ → ℕ → Type 0
LowHalf high x y n = (z : List ℕ) × (l : ℕ) × (x ≡ 92 ∷ 117 ∷ z) × Hex4 z y l × (is_low_surrogate l ≡ true) × (pair_value high l ≡ n)

low_sound : (high : ℕ) (x : List ℕ) (r : ℕ × List ℕ) → low_half high x ≡ Some r → LowHalf high x r.1 r.0
unfolding low_half
low_sound high x r h =
    let a = bind_some (after 92 x) _ r h in
    let b = bind_some (after 117 a.0) _ r a.2 in
    let c = bind_some (hex4 b.0) _ r b.2 in
    let d = cond_some (is_low_surrogate c.0.0) (pair_value high c.0.0, c.0.1) r c.2 in
    let front : x ≡ 92 ∷ 117 ∷ b.0 = subst (λ z. x ≡ 92 ∷ z) (after_is 117 a.0 b.0 b.1) (after_is 92 x a.0 a.1) in
    subst (λ (q : ℕ × List ℕ). LowHalf high x q.1 q.0) d.1 (b.0, c.0.0, front, hex4_sound b.0 c.0 c.1, d.0, refl)

hex_sound : (x : List ℕ) (r : ℕ × List ℕ) → hex_scalar x ≡ Some r → Escape (117 ∷ x) r.1 r.0
unfolding hex_scalar
hex_sound x r h =
    let a = bind_some (hex4 x) _ r h in
    let four = hex4_sound x a.0 a.1 in
    ⊎_elim
    (λ b.
    let l = low_sound a.0.0 a.0.1 r b.1 in
    subst (λ n. Escape (117 ∷ x) r.1 n) l.5 (s.escaped_pair (subst (λ z. Hex4 x z a.0.0) l.2 four) b.0 l.3 l.4))
    (λ b. ⊎_elim
    (λ c. absurd (cc))
    (λ c. as_read (λ y n. Escape (117 ∷ x) y n) a.0 r c.1 (s.escaped_scalar four c.0))
    (decided (is_surrogate a.0.0) None (Some a.0) (Some r) b.1))
    (decided (is_high_surrogate a.0.0) (low_half a.0.0 a.0.1) (cond (is_surrogate a.0.0) None (Some a.0)) (Some r) a.2)

letter : (c k : ℕ) (x : List ℕ) (n : ℕ) → (c == k) ≡ true → Escape (k ∷ x) x n → Escape (c ∷ x) x n
letter c k x n e h = subst (λ d. Escape (d ∷ x) x n) (sym (eqb-true c k e)) h

as_letter : (c k v : ℕ) (x : List ℕ) (n : ℕ) → (c == k) ≡ true → Some v ≡ Some n → Escape (k ∷ x) x v → Escape (c ∷ x) x n
as_letter c k v x n e f h = subst (λ m. Escape (c ∷ x) x m) (some_same v n f) (letter c k x v e h)

letter_sound : (c : ℕ) (x : List ℕ) (n : ℕ) → escaped_letter c ≡ Some n → Escape (c ∷ x) x n
letter_sound c x n h = ⊎_elim (λ a. as_letter c 98 8 x n a.0 a.1 s.escaped_b) (λ a.
    ⊎_elim (λ a. as_letter c 102 12 x n a.0 a.1 s.escaped_f) (λ a.
    ⊎_elim (λ a. as_letter c 110 10 x n a.0 a.1 s.escaped_n) (λ a.
    ⊎_elim (λ a. as_letter c 114 13 x n a.0 a.1 s.escaped_r) (λ a.
    ⊎_elim (λ a. as_letter c 116 9 x n a.0 a.1 s.escaped_t) (λ a.
    ⊎_elim (λ a. as_letter c 47 47 x n a.0 a.1 s.escaped_slash) (λ a.
    ⊎_elim (λ a. as_letter c 92 92 x n a.0 a.1 s.escaped_backslash) (λ a. absurd (cc))
    (decided (c == 92) _ _ (Some n) a.1))
    (decided (c == 47) _ _ (Some n) a.1))
    (decided (c == 116) _ _ (Some n) a.1))
    (decided (c == 114) _ _ (Some n) a.1))
    (decided (c == 110) _ _ (Some n) a.1))
    (decided (c == 102) _ _ (Some n) a.1))
    (decided (c == 98) _ _ (Some n) h)

-- after a backslash, the quote itself or an escape
abbrev Escaped : ℕ → List ℕ → List ℕ → ℕ → Type 0
Escaped quote x y c = ((x ≡ quote ∷ y) × (c ≡ quote)) ⊎ Escape x y c

escape_sound : (quote : ℕ) (x : List ℕ) (r : ℕ × List ℕ) → escape_at quote x ≡ Some r → Escaped quote x r.1 r.0
unfolding escape_at
escape_sound quote [] r h = absurd (cc)
escape_sound quote (c ∷ x) r h = ⊎_elim
    (λ a. as_read (Escaped quote (c ∷ x)) (quote, x) r a.1 (inl (ap (λ d. d ∷ x) (eqb-true c quote a.0), refl)))
    (λ a. ⊎_elim
    (λ b. inr (subst (λ d. Escape (d ∷ x) r.1 r.0) (sym (eqb-true c 117 b.0)) (hex_sound x r b.1)))
    (λ b.
    let l = bind_some (escaped_letter c) _ r b.1 in
    inr (as_read (Escape (c ∷ x)) _ r l.2 (letter_sound c x l.0 l.1)))
    (decided (c == 117) _ _ (Some r) a.1))
    (decided (c == quote) _ _ (Some r) h)

not_same : (c d : ℕ) → (c == d) ≡ false → c ≢ d
not_same c d h = eqb-false c d h

next_scalar_sound : (quote : ℕ) (x y z : List ℕ) (a : ℕ) (t : List ℕ) → next_scalar quote x ≡ Some (Some (a, y)) → Quoted quote y z t → Quoted quote x z (a ∷ t)
unfolding next_scalar
next_scalar_sound quote [] y z a t h more = absurd (cc)
next_scalar_sound quote (c ∷ x) y z a t h more = ⊎_elim
    (λ p. absurd (cc))
    (λ p. ⊎_elim
    (λ q.
    let read = is_item_some (escape_at quote x) (a, y) q.1 in
    subst (λ d. Quoted quote (d ∷ x) z (a ∷ t)) (sym (eqb-true c 92 q.0)) (⊎_elim
    (λ e. subst (λ w. Quoted quote (92 ∷ w) z (a ∷ t)) (sym e.0) (subst (λ d. Quoted quote (92 ∷ quote ∷ y) z (d ∷ t)) (sym e.1) (s.escaped_quote more)))
    (λ e. s.escaped e more)
    (escape_sound quote x (a, y) read)))
    (λ q.
    let o = cond_some (is_plain c || c == 34 || c == 39) (Some (c, x)) (Some (a, y)) q.1 in
    let same = some_same (c, x) (a, y) o.1 in
    let taken : Quoted quote x z t → Quoted quote (c ∷ x) z (c ∷ t) = λ m. ⊎_elim
    (λ k. ⊎_elim (λ k. s.plain k m) (λ k. s.other_quote (quote_of c (inl k)) (not_same c quote p.0) m) (or_cases (is_plain c) (c == 34) k))
    (λ k. s.other_quote (quote_of c (inr k)) (not_same c quote p.0) m)
    (or_cases (is_plain c || c == 34) (c == 39) o.0) in
    subst (λ (q : ℕ × List ℕ). Quoted quote q.1 z t → Quoted quote (c ∷ x) z (q.0 ∷ t)) same taken more)
    (decided (c == 92) _ _ (Some (Some (a, y))) p.1))
    (decided (c == quote) _ _ (Some (Some (a, y))) h)
  where
    quote_of : (c : ℕ) → ((c == 34) ≡ true) ⊎ ((c == 39) ≡ true) → (c == 34 || c == 39) ≡ true
    quote_of c k = ⊎_elim (λ e. rw e refl) (λ e. rw (eqb-true c 39 e) refl) k

quoted_sound : (quote : ℕ) (x : List ℕ) (r : List ℕ × List ℕ) → between_quotes quote x ≡ Some r → Quoted quote x r.1 r.0
unfolding between_quotes
quoted_sound quote x r h =
    let a = bind_some (many (next_scalar quote) (length x) x) _ r h in
    let b = bind_some (after quote a.0.1) _ r a.2 in
    let front = many_sound (next_scalar quote) (λ x y t. (z u : List ℕ) → Quoted quote y z u → Quoted quote x z (t ++ u)) (λ x z u q. q) (λ x y z c t e others w u q. next_scalar_sound quote x y w c (t ++ u) e (others w u q)) (length x) x a.0 a.1 in
    let closing : Quoted quote a.0.1 b.0 [] = subst (λ z. Quoted quote z b.0 []) (sym (after_is quote a.0.1 b.0 b.1)) s.closing_quote in
    as_read (Quoted quote x) _ r b.2 (subst (λ t. Quoted quote x b.0 t) (append-nil a.0.0) (front b.0 [] closing))

pub string_sound : (x : List ℕ) (r : List ℕ × List ℕ) → string_at x ≡ Some r → StringLiteral x r.1 r.0
unfolding string_at
string_sound x r h = ⊎_elim
    (λ a. subst (λ z. StringLiteral z r.1 r.0) (sym (after_is 34 x a.0 a.1)) (s.double_quoted (quoted_sound 34 a.0 r a.2)))
    (λ a. ⊎_elim
    (λ b. subst (λ z. StringLiteral z r.1 r.0) (sym (after_is 39 x b.0 b.1)) (s.single_quoted (quoted_sound 39 b.0 r b.2)))
    (λ b. absurd (cc))
    (chosen (after 39 x) _ _ (Some r) a.1))
    (chosen (after 34 x) _ _ (Some r) h)

-- ---- marks

pub origin_sound : (x : List ℕ) (r : Origin × List ℕ) → origin_at x ≡ Some r → IsOrigin x r.1 r.0
unfolding origin_at
origin_sound x r h = ⊎_elim
    (λ a. as_read (IsOrigin x) _ r a.2 (subst (λ z. IsOrigin z a.0 syntax.current) (sym (after_is 64 x a.0 a.1)) s.at_mark))
    (λ b. ⊎_elim
    (λ a. as_read (IsOrigin x) _ r a.2 (subst (λ z. IsOrigin z a.0 syntax.root) (sym (after_is 36 x a.0 a.1)) s.dollar_mark))
    (λ a. absurd (cc))
    (chosen (after 36 x) _ _ (Some r) b.1))
    (chosen (after 64 x) _ _ (Some r) h)

pub operator_sound : (x : List ℕ) (r : CompareOp × List ℕ) → operator_at x ≡ Some r → IsOp x r.1 r.0
unfolding operator_at
operator_sound x r h = ⊎_elim (λ a. as_read (IsOp x) _ r a.2 (subst (λ z. IsOp z a.0 syntax.equal) (sym (after_all_is (61 ∷ 61 ∷ []) x a.0 a.1)) s.equal_op)) (λ b.
    ⊎_elim (λ a. as_read (IsOp x) _ r a.2 (subst (λ z. IsOp z a.0 syntax.not_equal) (sym (after_all_is (33 ∷ 61 ∷ []) x a.0 a.1)) s.not_equal_op)) (λ b.
    ⊎_elim (λ a. as_read (IsOp x) _ r a.2 (subst (λ z. IsOp z a.0 syntax.less_equal) (sym (after_all_is (60 ∷ 61 ∷ []) x a.0 a.1)) s.less_equal_op)) (λ b.
    ⊎_elim (λ a. as_read (IsOp x) _ r a.2 (subst (λ z. IsOp z a.0 syntax.greater_equal) (sym (after_all_is (62 ∷ 61 ∷ []) x a.0 a.1)) s.greater_equal_op)) (λ b.
    ⊎_elim (λ a. as_read (IsOp x) _ r a.2 (subst (λ z. IsOp z a.0 syntax.less) (sym (after_is 60 x a.0 a.1)) s.less_op)) (λ b.
    ⊎_elim (λ a. as_read (IsOp x) _ r a.2 (subst (λ z. IsOp z a.0 syntax.greater) (sym (after_is 62 x a.0 a.1)) s.greater_op)) (λ b. absurd (cc))
    (chosen (after 62 x) _ _ (Some r) b.1))
    (chosen (after 60 x) _ _ (Some r) b.1))
    (chosen (after_all (62 ∷ 61 ∷ []) x) _ _ (Some r) b.1))
    (chosen (after_all (60 ∷ 61 ∷ []) x) _ _ (Some r) b.1))
    (chosen (after_all (33 ∷ 61 ∷ []) x) _ _ (Some r) b.1))
    (chosen (after_all (61 ∷ 61 ∷ []) x) _ _ (Some r) h)
