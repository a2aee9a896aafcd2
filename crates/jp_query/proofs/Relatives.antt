-- Rel-queries are as queries with `$` in the place of their `@`.
use Rattle.std.proofs.Common.{◌≡◌, ◌∙◌, ◌==◌, ℕ, ℤ, List, [], ◌∷◌, ◌++◌, drop, get_or, Bool, true, false, cond, Option, Some, None, ◌⊎◌, inl, inr, ⊎_elim, refl, sym, ap, subst, arith, IsUtf8}
use Rattle.std.proofs.lemmas.Bool.{eqb-true, eqb-false}
use Rattle.std.proofs.lemmas.Str.{encodes-chars, encode_ascii, is_utf8-from_IsUtf8, IsUtf8-from_is_utf8}
use Rattle.std.specs.Str.{chars, is_utf8}
use lib.Utf8.{encode, encodes}
use Rattle.jp_model.specs.declared.QueryFault.TheVariants as faults
use Rattle.jp_model.specs.Query.Limits.{is_oversized}
use Rattle.jp_model.specs.Query.Spelling as spelling
use Rattle.jp_model.specs.Query.Spelling.{IsSegments, SpellsQuery}
use Rattle.jp_model.specs.Query.Status.{QueryStatus, refused_query, query, TextSpells, HasQueryStatus}
use Rattle.jp_model.specs.Query.Syntax.{Segments}
use Rattle.jp_query.specs.Reading.Queries.{query_at, relative_at}
use Rattle.jp_query.specs.Reading.Scalars.{after}
use Rattle.jp_query.specs.Relative.{SpellsRelative, relative_query, TextSpellsRelative, HasRelativeStatus}
use Rattle.jp_query.specs.Status.{read_text, read_relative, query_of, relative_query_of}
use Rattle.jp_query.proofs.LawTools.{bind_some, after_is}
use Rattle.jp_query.proofs.Statuses.{has_status, one_status}

-- ---- `$` in the place of `@`

at_chars : (rest : List ℕ) → chars (64 ∷ rest) ≡ 64 ∷ chars rest
unfolding chars
at_chars [] = refl
at_chars (b ∷ rest) = refl

root_chars : (rest : List ℕ) → chars (36 ∷ rest) ≡ 36 ∷ chars rest
unfolding chars
root_chars [] = refl
root_chars (b ∷ rest) = refl

same_utf8 : (rest : List ℕ) → is_utf8 (64 ∷ rest) ≡ is_utf8 (36 ∷ rest)
unfolding is_utf8 encode
same_utf8 rest = rw (at_chars rest, root_chars rest) refl

same_size : (rest : List ℕ) → is_oversized (64 ∷ rest) ≡ is_oversized (36 ∷ rest)
same_size rest = refl

same_path : (of_int : ℤ → ℤ) (depth : ℕ) (x : List ℕ) → relative_at of_int depth (64 ∷ x) ≡ query_at of_int depth (36 ∷ x)
unfolding relative_at query_at
same_path of_int depth x = refl

pub same_read : (of_int : ℤ → ℤ) (rest : List ℕ) → read_relative of_int (64 ∷ rest) ≡ read_text of_int (36 ∷ rest)
unfolding read_relative read_text
same_read of_int rest = rw (same_utf8 rest, at_chars rest, root_chars rest, same_path of_int 512 (chars rest)) refl

pub same_status : (rest : List ℕ) → relative_query_of (64 ∷ rest) ≡ query_of (36 ∷ rest)
unfolding relative_query_of query_of
same_status rest = rw (same_size rest, same_read (λ i. i) rest) refl

-- ---- a text that begins with `@`, and any other

-- its scalars begin so only where its bytes do
begins_at : (text x : List ℕ) → IsUtf8 text → chars text ≡ 64 ∷ x → (rest : List ℕ) × (text ≡ 64 ∷ rest)
begins_at text x u h = (encodes x, sym (encodes-chars text u) ∙ (ap encodes h ∙ ap (λ (s : List ℕ). s ++ encodes x) (encode_ascii 64 (omega arith))))

spells_at : (text : List ℕ) (q : Segments) → TextSpellsRelative text q → (rest : List ℕ) × (text ≡ 64 ∷ rest)
spells_at text q h = by (chars text) refl h.1
  where
    by : (x : List ℕ) → chars text ≡ x → SpellsRelative x q → (rest : List ℕ) × (text ≡ 64 ∷ rest)
    by x e (relative_query {x = y} s) = begins_at text y h.0 e

pub reads_at : (of_int : ℤ → ℤ) (text : List ℕ) (r : Segments) → read_relative of_int text ≡ Some r → (rest : List ℕ) × (text ≡ 64 ∷ rest)
unfolding read_relative relative_at
reads_at of_int text r h = by (is_utf8 text) refl h
  where
    by : (t : Bool) → is_utf8 text ≡ t → cond t (relative_at of_int 512 (chars text)) None ≡ Some r → (rest : List ℕ) × (text ≡ 64 ∷ rest)
    by true e h = let a = bind_some (after 64 (chars text)) _ r h in begins_at text a.0 (IsUtf8-from_is_utf8 text e) (after_is 64 (chars text) a.0 a.1)
    by false e h = absurd (cc)

abbrev pub Front : List ℕ → Type 0
Front text = (rest : List ℕ) × (text ≡ 64 ∷ rest)

pub front : (text : List ℕ) → Front text ⊎ (Front text → ⊥)
front [] = inr (λ f. absurd (cc))
front (c ∷ rest) = by (c == 64) refl
  where
    by : (t : Bool) → (c == 64) ≡ t → Front (c ∷ rest) ⊎ (Front (c ∷ rest) → ⊥)
    by true e = inl (rest, ap (λ (d : ℕ). d ∷ rest) (eqb-true c 64 e))
    by false e = inr (λ f. eqb-false c 64 e (ap (λ (l : List ℕ). get_or l 0 0) f.1))

not_read : (of_int : ℤ → ℤ) (text : List ℕ) → (Front text → ⊥) → read_relative of_int text ≡ None
not_read of_int text none = by (read_relative of_int text) refl
  where
    by : (o : Option Segments) → read_relative of_int text ≡ o → o ≡ None
    by None e = refl
    by (Some r) e = absurd (none (reads_at of_int text r e))

-- ---- what spells a rel-query

to_query : (rest : List ℕ) (q : Segments) → TextSpellsRelative (64 ∷ rest) q → TextSpells (36 ∷ rest) q
to_query rest q h = (
  IsUtf8-from_is_utf8 (36 ∷ rest) (sym (same_utf8 rest) ∙ is_utf8-from_IsUtf8 (64 ∷ rest) h.0),
  subst (λ x. SpellsQuery x q) (sym (root_chars rest)) (by (64 ∷ chars rest) refl (subst (λ x. SpellsRelative x q) (at_chars rest) h.1)),
)
  where
    by : (x : List ℕ) → 64 ∷ chars rest ≡ x → SpellsRelative x q → SpellsQuery (36 ∷ chars rest) q
    by x e (relative_query {x = y} s) = spelling.query (subst (λ (z : List ℕ). IsSegments z [] q) (sym (ap (drop 1) e)) s)

to_relative : (rest : List ℕ) (q : Segments) → TextSpells (36 ∷ rest) q → TextSpellsRelative (64 ∷ rest) q
to_relative rest q h = (
  IsUtf8-from_is_utf8 (64 ∷ rest) (same_utf8 rest ∙ is_utf8-from_IsUtf8 (36 ∷ rest) h.0),
  subst (λ x. SpellsRelative x q) (sym (at_chars rest)) (by (36 ∷ chars rest) refl (subst (λ x. SpellsQuery x q) (root_chars rest) h.1)),
)
  where
    by : (x : List ℕ) → 36 ∷ chars rest ≡ x → SpellsQuery x q → SpellsRelative (64 ∷ chars rest) q
    by x e (spelling.query {x = y} s) = relative_query (subst (λ (z : List ℕ). IsSegments z [] q) (sym (ap (drop 1) e)) s)

-- ---- the status

status_to : (rest : List ℕ) (s : QueryStatus) → HasQueryStatus (36 ∷ rest) s → HasRelativeStatus (64 ∷ rest) s
status_to rest (query q) h = (h.0, to_relative rest q h.1, h.2)
status_to rest (refused_query faults.Size) h = h
status_to rest (refused_query faults.Syntax) h = (h.0, λ q s. h.1 q (to_query rest q s))
status_to rest (refused_query faults.Integer) h = (h.0, h.1, to_relative rest h.1 h.2, h.3)
status_to rest (refused_query faults.Number) h = (h.0, h.1, to_relative rest h.1 h.2, h.3)
status_to rest (refused_query faults.Function) h = (h.0, h.1, to_relative rest h.1 h.2, h.3)
status_to rest (refused_query faults.Types) h = (h.0, h.1, to_relative rest h.1 h.2, h.3)

status_from : (rest : List ℕ) (s : QueryStatus) → HasRelativeStatus (64 ∷ rest) s → HasQueryStatus (36 ∷ rest) s
status_from rest (query q) h = (h.0, to_query rest q h.1, h.2)
status_from rest (refused_query faults.Size) h = h
status_from rest (refused_query faults.Syntax) h = (h.0, λ q s. h.1 q (to_relative rest q s))
status_from rest (refused_query faults.Integer) h = (h.0, h.1, to_query rest h.1 h.2, h.3)
status_from rest (refused_query faults.Number) h = (h.0, h.1, to_query rest h.1 h.2, h.3)
status_from rest (refused_query faults.Function) h = (h.0, h.1, to_query rest h.1 h.2, h.3)
status_from rest (refused_query faults.Types) h = (h.0, h.1, to_query rest h.1 h.2, h.3)

-- the status of a text that does not begin with `@`
abbrev pub other_status : Bool → QueryStatus
other_status t = cond t (refused_query faults.Size) (refused_query faults.Syntax)

pub status_without : (text : List ℕ) → (Front text → ⊥) → relative_query_of text ≡ other_status (is_oversized text)
unfolding relative_query_of
status_without text none = rw (not_read (λ i. i) text none) refl

-- each text has the status that is computed of it
pub has_relative_status : (text : List ℕ) → HasRelativeStatus text (relative_query_of text)
has_relative_status text = ⊎_elim
    (λ f. subst (λ t. HasRelativeStatus t (relative_query_of t)) (sym f.1) (subst (HasRelativeStatus (64 ∷ f.0)) (sym (same_status f.0)) (status_to f.0 (query_of (36 ∷ f.0)) (has_status (36 ∷ f.0)))))
    (λ none. subst (HasRelativeStatus text) (sym (status_without text none)) (by none (is_oversized text) refl))
    (front text)
  where
    by : (Front text → ⊥) → (t : Bool) → is_oversized text ≡ t → HasRelativeStatus text (other_status t)
    by none true e = e
    by none false e = (e, λ q s. none (spells_at text q s))

-- and no other
pub one_relative_status : (text : List ℕ) (s : QueryStatus) → HasRelativeStatus text s → s ≡ relative_query_of text
one_relative_status text s h = ⊎_elim
    (λ f. subst (λ t. s ≡ relative_query_of t) (sym f.1) (one_status (36 ∷ f.0) s (status_from f.0 s (subst (λ t. HasRelativeStatus t s) f.1 h)) ∙ sym (same_status f.0)))
    (λ none. by none s h ∙ sym (status_without text none))
    (front text)
  where
    by : (Front text → ⊥) → (s : QueryStatus) → HasRelativeStatus text s → s ≡ other_status (is_oversized text)
    by none (query q) h = absurd (none (spells_at text q h.1))
    by none (refused_query faults.Size) h = rw h refl
    by none (refused_query faults.Syntax) h = rw h.0 refl
    by none (refused_query faults.Integer) h = absurd (none (spells_at text h.1 h.2))
    by none (refused_query faults.Number) h = absurd (none (spells_at text h.1 h.2))
    by none (refused_query faults.Function) h = absurd (none (spells_at text h.1 h.2))
    by none (refused_query faults.Types) h = absurd (none (spells_at text h.1 h.2))
