-- A value that is no container is one value.
use Rattle.std.proofs.Common.{◌≡◌, ℕ, ◌+◌, ◌==◌, ◌||◌, Bool, false, cond, List, length, sym, ◌∙◌, ap, subst, refl, arith, ℤ, Option, Some, None, inl, inr}
use Rattle.std.proofs.lemmas.Bool.{cond-true, cond-false, ne_eqb, cases_Bool}
use Rattle.std.proofs.lemmas.Option.{same_Some}
use Rattle.jp_model.specs.declared.Span.{Span}
use Rattle.jp_model.specs.Characters.{is_digit}
use Rattle.jp_model.specs.Json.Places.{byte_at, bytes_between, Reads}
use Rattle.jp_model.specs.Json.Numbers.{SpellsNumber, numeral_of, is_long_exponent}
use Rattle.jp_model.specs.Json.Strings.{has_lone_surrogate}
use Rattle.jp_model.specs.Json.Tree.{Tree, node, Value, null, boolean, number, string, container, Container, Children, span}
use Rattle.jp_model.specs.Json.Spelling.{Spells, SpellsValue, SpellsString, word_of, null_word}
use Rattle.jp_model.specs.Json.Reader.{Lead, Null_word, Boolean_word, Quote, Bracket, Digit_or_minus, No_value, lead_of, reads, value_by, value_with, spanned, children_at, First}
use Rattle.jp_model.proofs.Reader.Lexical.{reads_end}
use Rattle.jp_model.proofs.Reader.Leads.{lead_by, lead_is}
use Rattle.jp_model.proofs.Reader.Scans.{then_from, reads_whole}
use Rattle.jp_model.proofs.Reader.Numbers.{number_whole}
use Rattle.jp_model.proofs.Reader.Bodies.{body_whole}
use Rattle.jp_model.proofs.Reader.Whole.{value_whole}
use Rattle.jp_nodes.specs.declared.Kind.TheVariants as kinds
use Rattle.jp_tape.specs.declared.builder.tokens.Scalar.{Scalar}
use Rattle.jp_tape.specs.Places.{Ended}
use Rattle.jp_tape.specs.Reading.{FoundScalar, NoValue}
use Rattle.jp_nodes.specs.Kinds.{code_of}
use Rattle.jp_nodes.specs.Words.{boolean_code}

-- ---- what the first byte tells of a value

abbrev pub IsOf : Lead → Value → Type 0
IsOf Null_word v = v ≡ null
IsOf (Boolean_word b) v = v ≡ boolean b
IsOf Quote v = (points : List ℕ) × (v ≡ string points)
IsOf (Bracket kind) v = (children : Children) × (v ≡ container kind children)
IsOf Digit_or_minus v = (m e : ℤ) × (v ≡ number m e)
IsOf No_value v = ⊥

is_of : (v : Value) → IsOf (lead_by v) v
is_of null = refl
is_of (boolean b) = refl
is_of (number m e) = (m, e, refl)
is_of (string points) = (points, refl)
is_of (container kind children) = (children, refl)

pub value_at : (line : List ℕ) (from : ℕ) (lead : Lead) (s : Span) (v : Value) → s.start ≡ from → SpellsValue line s v → lead_of (byte_at line from) ≡ lead → IsOf lead v
value_at line from lead s v e h b = subst (λ l. IsOf l v) (sym (lead_is line s v h) ∙ (ap (λ x. lead_of (byte_at line x)) e ∙ b)) (is_of v)

-- ---- the reader finds a value there, and so no other one is spelled

abbrev IsRead : List ℕ → ℕ → Tree → Type 0
IsRead line from t = (inside : Container → ℕ → Option (Children × ℕ)) → value_with inside line from ≡ Some t

only_read : (line : List ℕ) (from : ℕ) (u : Tree) → IsRead line from u → (t : Tree) → (span t).start ≡ from → Spells line t → Ended line (span t).end → t ≡ u
only_read line from u r t e h d =
    let n : ℕ = (span t).end + 1 in
    same_Some t u (sym (value_whole line t n h d (omega arith)) ∙ (ap (value_with (children_at n line First) line) e ∙ r (children_at n line First)))

word_read : (line : List ℕ) (from to : ℕ) (word : List ℕ) (v : Value) → Reads line from to word → cond (reads line from word) (Some (spanned from (from + length word) v)) None ≡ Some (spanned from to v)
word_read line from to word v h = cond-true _ _ _ (reads_whole line from to word h) ∙ ap (λ x. Some (spanned from x v)) (sym (reads_end line from to word h))

null_read : (line : List ℕ) (from to : ℕ) → Reads line from to null_word → IsRead line from (spanned from to null)
null_read line from to h inside = ap (value_by inside line from) (lead_is line (record { start = from; end = to }) null h) ∙ word_read line from to null_word null h

boolean_read : (line : List ℕ) (b : Bool) (from to : ℕ) → Reads line from to (word_of b) → IsRead line from (spanned from to (boolean b))
boolean_read line b from to h inside = ap (value_by inside line from) (lead_is line (record { start = from; end = to }) (boolean b) h) ∙ word_read line from to (word_of b) (boolean b) h

string_read : (line : List ℕ) (from to : ℕ) (points : List ℕ) → SpellsString line from to points → IsRead line from (spanned from to (string points))
string_read line from to points h inside =
    ap (value_by inside line from) (lead_is line (record { start = from; end = to }) (string points) h)
    ∙ then_from _ _ (points, h.last) _ (body_whole line (from + 1) h.last points h.body h.closes) (ap (λ x. Some (spanned from x (string points))) (sym h.end))

number_read : (line : List ℕ) (from to : ℕ) (m e : ℤ) → SpellsNumber line from to m e → Ended line to → IsRead line from (spanned from to (number m e))
number_read line from to m e h d inside =
    let s : Span = record { start = from; end = to } in
    ap (value_by inside line from) (lead_is line s (number m e) h) ∙ number_whole line s m e h d

pub found_null : (line : List ℕ) (from : ℕ) (r : Scalar) → Reads line from r.end null_word → r.kind ≡ kinds.Null → r.is_lone ≡ false → r.is_long ≡ false → FoundScalar line from r
found_null line from r h k s l = record {
  value = null;
  is_kind = ap code_of (sym k);
  leaf = refl;
  bare = λ place. refl;
  flat = refl;
  surrogate = sym s;
  exponent = sym l;
  duplicate = refl;
  spelled = h;
  only = only_read line from (spanned from r.end null) (null_read line from r.end h);
}

pub found_boolean : (line : List ℕ) (b : Bool) (from : ℕ) (r : Scalar) → Reads line from r.end (word_of b) → boolean_code b ≡ code_of r.kind → r.is_lone ≡ false → r.is_long ≡ false → FoundScalar line from r
found_boolean line b from r h k s l = record {
  value = boolean b;
  is_kind = k;
  leaf = refl;
  bare = λ place. refl;
  flat = refl;
  surrogate = sym s;
  exponent = sym l;
  duplicate = refl;
  spelled = h;
  only = only_read line from (spanned from r.end (boolean b)) (boolean_read line b from r.end h);
}

pub found_string : (line : List ℕ) (from to : ℕ) (b : Bool) (points : List ℕ) → SpellsString line from to points → has_lone_surrogate points ≡ b → FoundScalar line from (record { kind = kinds.Text; end = to; is_lone = b; is_long = false })
found_string line from to b points h s = record {
  value = string points;
  is_kind = refl;
  leaf = refl;
  bare = λ place. refl;
  flat = refl;
  surrogate = s;
  exponent = refl;
  duplicate = refl;
  spelled = h;
  only = only_read line from (spanned from to (string points)) (string_read line from to points h);
}

pub found_number : (line : List ℕ) (from to : ℕ) (b : Bool) (m e : ℤ) → SpellsNumber line from to m e → Ended line to → is_long_exponent (numeral_of (bytes_between line from to)) ≡ b →
    FoundScalar line from (record { kind = kinds.Number; end = to; is_lone = false; is_long = b })
found_number line from to b m e h d l = record {
  value = number m e;
  is_kind = refl;
  leaf = refl;
  bare = λ place. refl;
  flat = refl;
  surrogate = refl;
  exponent = l;
  duplicate = refl;
  spelled = h;
  only = only_read line from (spanned from to (number m e)) (number_read line from to m e h d);
}

-- ---- no value stands there

pub no_null : (line : List ℕ) (from : ℕ) → byte_at line from ≡ 0x6E → ((to : ℕ) → Reads line from to null_word → ⊥) → NoValue line from
no_null line from b none (node s v) e h g =
    let read : Reads line s.start s.end null_word = subst (SpellsValue line s) (value_at line from Null_word s v e h (ap lead_of b)) h in
    none s.end (subst (λ x. Reads line x s.end null_word) e read)

pub no_boolean : (line : List ℕ) (b : Bool) (from : ℕ) → lead_of (byte_at line from) ≡ Boolean_word b → ((to : ℕ) → Reads line from to (word_of b) → ⊥) → NoValue line from
no_boolean line b from q none (node s v) e h g =
    let read : Reads line s.start s.end (word_of b) = subst (SpellsValue line s) (value_at line from (Boolean_word b) s v e h q) h in
    none s.end (subst (λ x. Reads line x s.end (word_of b)) e read)

pub no_string : (line : List ℕ) (from : ℕ) → byte_at line from ≡ 0x22 → ((to : ℕ) (points : List ℕ) → SpellsString line from to points → ⊥) → NoValue line from
no_string line from b none (node s v) e h g =
    let k = value_at line from Quote s v e h (ap lead_of b) in
    let read : SpellsString line s.start s.end k.0 = subst (SpellsValue line s) k.1 h in
    none s.end k.0 (subst (λ x. SpellsString line x s.end k.0) e read)

-- another byte begins a number, or nothing
other_lead : (b : ℕ) → (b ≡ 0x6E → ⊥) → (b ≡ 0x74 → ⊥) → (b ≡ 0x66 → ⊥) → (b ≡ 0x22 → ⊥) → (b ≡ 0x5B → ⊥) → (b ≡ 0x7B → ⊥) → lead_of b ≡ cond (is_digit b || (b == 0x2D)) Digit_or_minus No_value
other_lead b n t f q o p =
    cond-false _ _ _ (ne_eqb b 0x6E n)
    ∙ (cond-false _ _ _ (ne_eqb b 0x74 t) ∙ (cond-false _ _ _ (ne_eqb b 0x66 f) ∙ (cond-false _ _ _ (ne_eqb b 0x22 q) ∙ (cond-false _ _ _ (ne_eqb b 0x5B o) ∙ cond-false _ _ _ (ne_eqb b 0x7B p)))))

pub no_number : (line : List ℕ) (from : ℕ) → (byte_at line from ≡ 0x6E → ⊥) → (byte_at line from ≡ 0x74 → ⊥) → (byte_at line from ≡ 0x66 → ⊥) → (byte_at line from ≡ 0x22 → ⊥) → (byte_at line from ≡ 0x5B → ⊥) → (byte_at line from ≡ 0x7B → ⊥) →
    ((to : ℕ) (m e : ℤ) → SpellsNumber line from to m e → Ended line to → ⊥) → NoValue line from
no_number line from n t f q o p none (node s v) e h g =
    let b : ℕ = byte_at line from in
    let lead = other_lead b n t f q o p in
    elim (cases_Bool (is_digit b || (b == 0x2D))) [
      | inl q1 ↦ (
          let k = value_at line from Digit_or_minus s v e h (lead ∙ cond-true _ _ _ q1) in
          let read : SpellsNumber line s.start s.end k.0 k.1 = subst (SpellsValue line s) k.2 h in
          none s.end k.0 k.1 (subst (λ x. SpellsNumber line x s.end k.0 k.1) e read) g
          )
      | inr q2 ↦ absurd (value_at line from No_value s v e h (lead ∙ cond-false _ _ _ q2))
    ]
