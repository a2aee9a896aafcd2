-- The status of a text of a query.
use Rattle.std.proofs.Common.{◌≡◌, ◌∙◌, ℕ, ℤ, ◌+◌, ◌≤◌, ◌<◌, List, [], ◌∷◌, Bool, true, false, not, cond, ◌==◌, Option, Some, None, refl, sym, ap, subst, arith, le_refl, ⊎_elim}
use Rattle.std.proofs.lemmas.Bool.{or_parts, or_cases, eqb-true, ltb-false}
use Rattle.std.proofs.lemmas.List.Sums.{sum_by-append}
use Rattle.std.proofs.lemmas.Str.{encodes-chars, encode_ascii, is_utf8-from_IsUtf8, IsUtf8-from_is_utf8}
use Rattle.std.specs.Str.{chars, IsUtf8, is_utf8}
use Rattle.std.specs.Prelude.{count_by}
use lib.Utf8.{encode, encodes}
use Rattle.jp_model.specs.declared.QueryFault.{QueryFault}
use Rattle.jp_model.specs.declared.QueryFault.TheVariants as faults
use Rattle.jp_model.specs.Query.Limits.{is_opener, is_oversized, has_exact_integers, has_small_exponents, knows_functions}
use Rattle.jp_model.specs.Query.Spelling.{SpellsQuery}
use Rattle.jp_model.specs.Query.Status.{QueryStatus, refused_query, query, TextSpells, fault_of_query, QueryHasFault, HasQueryStatus}
use Rattle.jp_model.specs.Query.Syntax.{Segments}
use Rattle.jp_model.specs.Query.Typing.{segments_typed}
use Rattle.jp_query.specs.Integers.{map_ints}
use Rattle.jp_query.specs.Reading.Queries.{query_at}
use Rattle.jp_query.specs.Status.{read_text, status_by, status_of_read, query_of}
use Rattle.jp_query.proofs.LawTools.{some_same}
use Rattle.jp_query.proofs.SoundTrees.{Spelt, query_sound}
use Rattle.jp_query.proofs.Complete.{opens, query_complete}
use Rattle.jp_query.proofs.IntegerChanges.{map_itself}

-- ---- one text has one tree

pub one_tree : (x : List ℕ) (a b : Segments) → SpellsQuery x a → SpellsQuery x b → a ≡ b
one_tree x a b h g =
    let p = query_complete (λ i. i) (opens x) x a (le_refl _) h in
    let q = query_complete (λ i. i) (opens x) x b (le_refl _) g in
    sym (map_itself a) ∙ (some_same (map_ints (λ i. i) a) (map_ints (λ i. i) b) (sym p ∙ q) ∙ map_itself b)

-- ---- as many brackets and parentheses among the bytes as among the scalars

abbrev one_if : Bool → ℕ
one_if t = cond t 1 0

opener_bytes : (c : ℕ) → one_if (is_opener c) ≤ count_by is_opener (encode c)
opener_bytes c = step (is_opener c) refl
  where
    alone : (k : ℕ) → k < 128 → count_by is_opener (encode k) ≡ 0 + one_if (is_opener k)
    alone k l = ap (count_by is_opener) (encode_ascii k l)

    step : (t : Bool) → is_opener c ≡ t → one_if t ≤ count_by is_opener (encode c)
    step false e = omega arith
    step true e = ⊎_elim
        (λ h. subst (λ k. 1 ≤ count_by is_opener (encode k)) (sym (eqb-true c 40 h)) (omega (arith, alone 40 (omega arith))))
        (λ h. subst (λ k. 1 ≤ count_by is_opener (encode k)) (sym (eqb-true c 91 h)) (omega (arith, alone 91 (omega arith))))
        (or_cases (c == 40) (c == 91) e)

opens_encoded : (cs : List ℕ) → opens cs ≤ count_by is_opener (encodes cs)
opens_encoded [] = omega arith
opens_encoded (c ∷ cs) = omega (arith, opener_bytes c, opens_encoded cs, sum_by-append (λ x. one_if (is_opener x)) (encode c) (encodes cs))

opens_text : (bytes : List ℕ) → IsUtf8 bytes → opens (chars bytes) ≤ count_by is_opener bytes
opens_text bytes u = subst (λ b. opens (chars bytes) ≤ count_by is_opener b) (encodes-chars bytes u) (opens_encoded (chars bytes))

pub few_opens : (bytes : List ℕ) → IsUtf8 bytes → is_oversized bytes ≡ false → opens (chars bytes) ≤ 512
few_opens bytes u h =
    let p = or_parts _ _ h in
    let few = ltb-false 512 (count_by is_opener bytes) p.1 in
    omega (arith, opens_text bytes u)

-- ---- a text within the limits is read as it is spelled, and only so

pub text_complete : (of_int : ℤ → ℤ) (bytes : List ℕ) (q : Segments) → is_oversized bytes ≡ false → TextSpells bytes q → read_text of_int bytes ≡ Some (map_ints of_int q)
unfolding read_text
text_complete of_int bytes q h s = rw (is_utf8-from_IsUtf8 bytes s.0) (query_complete of_int 512 (chars bytes) q (few_opens bytes s.0 h) s.1)

pub text_sound : (of_int : ℤ → ℤ) (bytes : List ℕ) (r : Segments) → read_text of_int bytes ≡ Some r → Spelt (TextSpells bytes) (map_ints of_int) r
unfolding read_text
text_sound of_int bytes r h = step (is_utf8 bytes) refl h
  where
    step : (t : Bool) → is_utf8 bytes ≡ t → cond t (query_at of_int 512 (chars bytes)) None ≡ Some r → Spelt (TextSpells bytes) (map_ints of_int) r
    step true e h = let q = query_sound of_int 512 (chars bytes) r h in (q.0, (IsUtf8-from_is_utf8 bytes e, q.1), q.2)
    step false e h = absurd (cc)

-- ---- the status

no_such_fault : (a b c d : Bool) (fault : QueryFault) → ◌≡◌ {A = Option QueryFault} (cond (not a) (Some faults.Integer) (cond (not b) (Some faults.Number) (cond (not c) (Some faults.Function) (cond (not d) (Some faults.Types) None)))) (Some fault) → ((fault ≡ faults.Size) → ⊥) × ((fault ≡ faults.Syntax) → ⊥)
no_such_fault false b c d fault h = (λ e. absurd (cc), λ e. absurd (cc))
no_such_fault true false c d fault h = (λ e. absurd (cc), λ e. absurd (cc))
no_such_fault true true false d fault h = (λ e. absurd (cc), λ e. absurd (cc))
no_such_fault true true true false fault h = (λ e. absurd (cc), λ e. absurd (cc))
no_such_fault true true true true fault h = absurd (cc)

has_by : (bytes : List ℕ) (q : Segments) → is_oversized bytes ≡ false → TextSpells bytes q → (o : Option QueryFault) → fault_of_query q ≡ o → HasQueryStatus bytes (status_by q o)
has_by bytes q h s None e = (h, s, e)
has_by bytes q h s (Some faults.Size) e = absurd ((no_such_fault (has_exact_integers q) (has_small_exponents q) (knows_functions q) (segments_typed q) faults.Size e).0 refl)
has_by bytes q h s (Some faults.Syntax) e = absurd ((no_such_fault (has_exact_integers q) (has_small_exponents q) (knows_functions q) (segments_typed q) faults.Syntax e).1 refl)
has_by bytes q h s (Some faults.Integer) e = (h, q, s, e)
has_by bytes q h s (Some faults.Number) e = (h, q, s, e)
has_by bytes q h s (Some faults.Function) e = (h, q, s, e)
has_by bytes q h s (Some faults.Types) e = (h, q, s, e)

-- each text has the status that is computed of it
pub has_status : (bytes : List ℕ) → HasQueryStatus bytes (query_of bytes)
unfolding query_of
has_status bytes = step (is_oversized bytes) refl
  where
    read : is_oversized bytes ≡ false → (o : Option Segments) → read_text (λ i. i) bytes ≡ o → HasQueryStatus bytes (status_of_read o)
    read h None e = (h, λ q s. let f = text_complete (λ i. i) bytes q h s in absurd (cc))
    read h (Some r) e =
        let q = text_sound (λ i. i) bytes r e in
        let s : TextSpells bytes r = subst (TextSpells bytes) (sym (map_itself q.0) ∙ q.2) q.1 in
        has_by bytes r h s (fault_of_query r) refl

    step : (t : Bool) → is_oversized bytes ≡ t → HasQueryStatus bytes (cond t (refused_query faults.Size) (status_of_read (read_text (λ i. i) bytes)))
    step true h = h
    step false h = read h (read_text (λ i. i) bytes) refl

-- of a text that spells a query
at_tree : (bytes : List ℕ) (q : Segments) → is_oversized bytes ≡ false → TextSpells bytes q → query_of bytes ≡ status_by q (fault_of_query q)
unfolding query_of
at_tree bytes q h s = rw (h, text_complete (λ i. i) bytes q h s, map_itself q) refl

at_fault : (bytes : List ℕ) (fault : QueryFault) → QueryHasFault bytes (Some fault) → refused_query fault ≡ query_of bytes
at_fault bytes fault h = sym (at_tree bytes h.1 h.0 h.2 ∙ ap (status_by h.1) h.3)

-- and no other
pub one_status : (bytes : List ℕ) (s : QueryStatus) → HasQueryStatus bytes s → s ≡ query_of bytes
unfolding query_of
one_status bytes (query q) h = sym (at_tree bytes q h.0 h.1 ∙ ap (status_by q) h.2)
one_status bytes (refused_query faults.Size) h = rw h refl
one_status bytes (refused_query faults.Syntax) h = rw h.0 (step (read_text (λ i. i) bytes) refl)
  where
    step : (o : Option Segments) → read_text (λ i. i) bytes ≡ o → refused_query faults.Syntax ≡ status_of_read o
    step None e = refl
    step (Some r) e = let q = text_sound (λ i. i) bytes r e in absurd (h.1 q.0 q.1)
one_status bytes (refused_query faults.Integer) h = at_fault bytes faults.Integer h
one_status bytes (refused_query faults.Number) h = at_fault bytes faults.Number h
one_status bytes (refused_query faults.Function) h = at_fault bytes faults.Function h
one_status bytes (refused_query faults.Types) h = at_fault bytes faults.Types h
