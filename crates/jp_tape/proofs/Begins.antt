-- What the first mark of a text tells of the others.
use Rattle.std.proofs.Common.{◌≡◌, ℕ, ◌+◌, ◌<◌, ◌≤◌, true, List, [], ◌∷◌, ◌++◌, length, get_or, sym, ◌∙◌, ap, refl, arith, subst, append_assoc}
use Rattle.jp_model.specs.declared.Span.{Span}
use Rattle.jp_model.specs.Json.Places.{byte_at, Has}
use Rattle.jp_model.specs.Json.Marks.{marks}
use Rattle.jp_model.specs.Json.Tree.{Tree, node, Value, null, boolean, number, string, container, Container, array, object, Children, no_child, child, span}
use Rattle.jp_model.specs.Json.Spelling.{SpellsValue, SpellsFirst, SpellsMore, Text, opening, closing}
use Rattle.jp_model.specs.Json.Status.{IsNoText}
use Rattle.jp_model.specs.Json.Reader.{Quote, Bracket, lead_of}
use Rattle.jp_masks.specs.Tokens.{tokens, value_tokens, first_tokens, more_tokens, label_tokens}
use Rattle.jp_tape.specs.Ahead.{IsClosed, is_closing}
use Rattle.jp_tape.proofs.Scalars.{IsOf, value_at}
use Rattle.jp_tape.proofs.Held.{last_of}

-- the last token is a closing bracket
record Last (line : List ℕ) (kind : Container) (ms : List ℕ) : Type 0 where
  front : List ℕ
  last : ℕ
  are : ms ≡ front ++ last ∷ []
  has : Has line last (closing kind)

more_last : (c : Children) (line : List ℕ) (kind : Container) (from to : ℕ) (h : SpellsMore line kind from to c) → Last line kind (more_tokens line kind from to c h)
more_last no_child line kind from to h = record { front = []; last = h.place; are = refl; has = h.bracket }
more_last (child name t more) line kind from to h =
    let r = more_last more line kind (span t).end to h.4 in
    let a = label_tokens line kind h.0 (span t).start name h.2 in
    let b = tokens line t h.3 in
    record {
      front = h.1.place ∷ (a ++ (b ++ r.front));
      last = r.last;
      are = ap (λ (ys : List ℕ). h.1.place ∷ (a ++ (b ++ ys))) r.are
          ∙ (ap (λ (ys : List ℕ). h.1.place ∷ (a ++ ys)) (sym (append_assoc b r.front (r.last ∷ []))) ∙ ap (λ (ys : List ℕ). h.1.place ∷ ys) (sym (append_assoc a (b ++ r.front) (r.last ∷ []))));
      has = r.has;
    }

first_last : (c : Children) (line : List ℕ) (kind : Container) (from to : ℕ) (h : SpellsFirst line kind from to c) → Last line kind (first_tokens line kind from to c h)
first_last no_child line kind from to h = record { front = []; last = h.place; are = refl; has = h.bracket }
first_last (child name t more) line kind from to h =
    let r = more_last more line kind (span t).end to h.4 in
    let a = label_tokens line kind h.0 (span t).start name h.2 in
    let b = tokens line t h.3 in
    record {
      front = a ++ (b ++ r.front);
      last = r.last;
      are = ap (λ (ys : List ℕ). a ++ (b ++ ys)) r.are ∙ (ap (λ (ys : List ℕ). a ++ ys) (sym (append_assoc b r.front (r.last ∷ []))) ∙ sym (append_assoc a (b ++ r.front) (r.last ∷ [])));
      has = r.has;
    }

closing_closes : (kind : Container) → is_closing (closing kind) ≡ true
closing_closes array = refl
closing_closes object = refl

last_closes : (line : List ℕ) (kind : Container) (ms : List ℕ) → Last line kind ms → IsClosed line ms
last_closes line kind ms r =
    subst (λ (xs : List ℕ). IsClosed line xs) (sym r.are) (λ some. ap (λ x. is_closing (byte_at line x)) (last_of r.front r.last 0) ∙ (ap is_closing r.has.is ∙ closing_closes kind))

bracket_closed : (line : List ℕ) (kind : Container) (s : Span) (v : Value) (h : SpellsValue line s v) → IsOf (Bracket kind) v → IsClosed line (value_tokens line s v h)
bracket_closed line kind s null h i = let e = i.1 in absurd (cc)
bracket_closed line kind s (boolean b) h i = let e = i.1 in absurd (cc)
bracket_closed line kind s (number m n) h i = let e = i.1 in absurd (cc)
bracket_closed line kind s (string points) h i = let e = i.1 in absurd (cc)
bracket_closed line kind s (container k c) h i =
    let r = first_last c line k (s.start + 1) s.end h.1 in
    last_closes line k (s.start ∷ first_tokens line k (s.start + 1) s.end c h.1) (record { front = s.start ∷ r.front; last = r.last; are = ap (λ (ys : List ℕ). s.start ∷ ys) r.are; has = r.has })

string_two : (line : List ℕ) (s : Span) (v : Value) (h : SpellsValue line s v) → IsOf Quote v → 2 ≤ length (value_tokens line s v h)
string_two line s null h i = let e = i.1 in absurd (cc)
string_two line s (boolean b) h i = let e = i.1 in absurd (cc)
string_two line s (number m n) h i = let e = i.1 in absurd (cc)
string_two line s (string points) h i = omega arith
string_two line s (container k c) h i = let e = i.1 in absurd (cc)

record Begun (line : List ℕ) (s : Span) (ms : List ℕ) : Type 0 where
  some : 0 < length ms
  first : get_or ms 0 0 ≡ s.start

begun : (line : List ℕ) (s : Span) (v : Value) (h : SpellsValue line s v) → Begun line s (value_tokens line s v h)
begun line s null h = record { some = omega arith; first = refl }
begun line s (boolean b) h = record { some = omega arith; first = refl }
begun line s (number m n) h = record { some = omega arith; first = refl }
begun line s (string points) h = record { some = omega arith; first = refl }
begun line s (container k c) h = record { some = omega arith; first = refl }

abbrev pub MarksAreTokens : Type 0
MarksAreTokens = (line : List ℕ) (t : Tree) (text : Text line t) → marks line ≡ tokens line t text.value

pub no_marks_no_text : (line ms : List ℕ) → MarksAreTokens → ms ≡ marks line → length ms ≡ 0 → IsNoText line
no_marks_no_text line ms law e z (node s v) text =
    let n = ap (λ (xs : List ℕ). length xs) (e ∙ law line (node s v) text) in
    let some = (begun line s v text.value).some in
    omega (arith, n, some, z)

starts_at : (line ms : List ℕ) (s : Span) (v : Value) (h : SpellsValue line s v) → ms ≡ value_tokens line s v h → s.start ≡ get_or ms 0 0
starts_at line ms s v h e = sym (ap (λ (xs : List ℕ). get_or xs 0 0) e ∙ (begun line s v h).first)

pub one_mark_no_string : (line ms : List ℕ) → MarksAreTokens → ms ≡ marks line → byte_at line (get_or ms 0 0) ≡ 0x22 → length ms < 2 → IsNoText line
one_mark_no_string line ms law e b few (node s v) text =
    let are = e ∙ law line (node s v) text in
    let n = ap (λ (xs : List ℕ). length xs) are in
    let two = string_two line s v text.value (value_at line (get_or ms 0 0) Quote s v (starts_at line ms s v text.value are) text.value (ap lead_of b)) in
    omega (arith, n, two, few)

bracket_lead : (kind : Container) (b : ℕ) → b ≡ opening kind → lead_of b ≡ Bracket kind
bracket_lead array b e = ap lead_of e
bracket_lead object b e = ap lead_of e

pub not_closed_no_text : (line ms : List ℕ) (kind : Container) → MarksAreTokens → ms ≡ marks line → byte_at line (get_or ms 0 0) ≡ opening kind → (IsClosed line ms → ⊥) → IsNoText line
not_closed_no_text line ms kind law e b none (node s v) text =
    let are = e ∙ law line (node s v) text in
    none (subst (λ (xs : List ℕ). IsClosed line xs) (sym are) (bracket_closed line kind s v text.value (value_at line (get_or ms 0 0) (Bracket kind) s v (starts_at line ms s v text.value are) text.value (bracket_lead kind _ b))))
