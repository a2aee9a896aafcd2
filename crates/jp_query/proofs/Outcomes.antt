-- What an answer for a text means.
use Rattle.std.proofs.Common.{◌≡◌, ℕ, ℤ, List, Bool, true, false, cond, IsFalse, IsUtf8, chars, Option, Some, None, Result, Ok, Err, IfOk, IfErr, refl, sym, ap, ◌∙◌, subst}
use Rattle.std.specs.Str.{is_utf8}
use Rattle.std.proofs.lemmas.Str.{IsUtf8-from_is_utf8, is_utf8-from_IsUtf8}
use Rattle.jp_model.specs.declared.QueryFault.TheVariants as faults
use Rattle.jp_model.specs.Query.Limits.{is_oversized, has_exact_integers, has_small_exponents}
use Rattle.jp_model.specs.Query.Status.{TextSpells, refused_query, fault_of_query}
use Rattle.jp_model.specs.Query.Syntax.{root, Segments}
use Rattle.jp_query.specs.Integers.{clamp, map_ints}
use Rattle.jp_query.specs.Answers.{GivesQuery, IsFirstFault, TellsStatus}
use Rattle.jp_query.specs.Outcome.{Passes, FaultMet, Meant}
use Rattle.jp_syntax.specs.Queries.{query_view}
use Rattle.jp_query.specs.Reading.Queries.{query_at}
use Rattle.jp_query.specs.Status.{read_text, query_of, status_by}
use Rattle.jp_syntax.specs.WellFormed.{IsWellFormed}
use Rattle.jp_query.specs.declared.fault.ParseFault.{ParseFault}
use Rattle.jp_query.specs.declared.fault.ParseFault.TheVariants as parse_faults
use Rattle.jp_syntax.specs.declared.query.Query.{Query}
use Rattle.jp_query.proofs.IntegerChanges.{clamp_keeps, clamp_tells, map_itself}
use Rattle.jp_query.proofs.Statuses.{text_complete, text_sound, one_status}

-- an exact tree that is read is spelled
pub exact_spells : (text : List ℕ) (r : Segments) → read_text clamp text ≡ Some r → has_exact_integers r ≡ true → TextSpells text r
exact_spells text r h exact =
    let s = text_sound clamp text r h in
    let e : has_exact_integers s.0 ≡ true = sym (clamp_tells s.0) ∙ (ap has_exact_integers s.2 ∙ exact) in
    let same : s.0 ≡ r = sym (clamp_keeps s.0 e) ∙ s.2 in
    subst (λ (q : Segments). TextSpells text q) same s.1

-- a tree that is read and within its limits is well formed
pub well_formed : (text : List ℕ) (r : Segments) → Passes text r → IsWellFormed r
well_formed text r p = record { text = text; sized = p.0.0; spelled = exact_spells text r p.0.1 p.1.0; exact = p.1.0; small = p.1.1 }

-- a text that is not UTF-8 is not read
pub not_read : (f : ℤ → ℤ) (text : List ℕ) → (IsUtf8 text → ⊥) → read_text f text ≡ None
unfolding read_text
not_read f text h = step (is_utf8 text) refl
  where
    step : (t : Bool) → is_utf8 text ≡ t → cond t (query_at f 512 (chars text)) None ≡ None
    step true e = absurd (h (IsUtf8-from_is_utf8 text e))
    step false e = refl

-- UTF-8 is read from its scalars
pub read_of_scalars : (f : ℤ → ℤ) (text : List ℕ) → IsUtf8 text → read_text f text ≡ query_at f 512 (chars text)
unfolding read_text
read_of_scalars f text u = rw (is_utf8-from_IsUtf8 text u) refl

-- ---- what is answered

pub answer_found : (text : List ℕ) (r : Result Query ParseFault) → Meant text r → IfOk r (λ q. IsFalse (is_oversized text) × TextSpells text (query_view q))
answer_found text (Ok q) h = (h.0.0, exact_spells text (query_view q) h.0.1 h.1.0)
answer_found text (Err e) h = tt

some_is : {A : Type 0} (a b : A) (o : Option A) → o ≡ Some a → o ≡ Some b → a ≡ b
some_is a b o h e = cc

none_is : {A : Type 0} (a : A) (o : Option A) → o ≡ Some a → o ≡ None → ⊥
none_is a o h e = cc

not_both : (t : Bool) → t ≡ true → t ≡ false → ⊥
not_both t h e = cc

module _ (text : List ℕ) (q : Segments) (sized : IsFalse (is_oversized text)) (spelled : TextSpells text q) (exact : has_exact_integers q ≡ true) (small : has_small_exponents q ≡ true) where
  reads : read_text clamp text ≡ Some q
  reads = text_complete clamp text q sized spelled ∙ ap (λ (t : Segments). Some t) (clamp_keeps q exact)

  pub answer_only : (r : Result Query ParseFault) → Meant text r → GivesQuery q r
  answer_only (Ok v) h = some_is (query_view v) q (read_text clamp text) h.0.1 reads
  answer_only (Err (parse_faults.Refused faults.Size)) h = not_both (is_oversized text) h sized
  answer_only (Err (parse_faults.Refused faults.Syntax)) h = none_is q (read_text clamp text) reads h.1
  answer_only (Err (parse_faults.Refused faults.Integer)) h = not_both (has_exact_integers q) exact (ap has_exact_integers (sym (some_is h.0 q (read_text clamp text) h.1.1 reads)) ∙ h.2)
  answer_only (Err (parse_faults.Refused faults.Number)) h = not_both (has_small_exponents q) small (ap has_small_exponents (sym (some_is h.0 q (read_text clamp text) h.1.1 reads)) ∙ h.2.1)
  answer_only (Err (parse_faults.Refused faults.Function)) h = h
  answer_only (Err (parse_faults.Refused faults.Types)) h = h
  answer_only (Err parse_faults.Memory) h = tt

pub not_exact : (q : Segments) → has_exact_integers q ≡ false → fault_of_query q ≡ Some faults.Integer
not_exact q h = rw h refl

pub not_small : (q : Segments) → has_exact_integers q ≡ true → has_small_exponents q ≡ false → fault_of_query q ≡ Some faults.Number
not_small q e h = rw (e, h) refl

pub answer_fault : (text : List ℕ) (e : ParseFault) → FaultMet root text e → IsFirstFault text e
answer_fault text (parse_faults.Refused faults.Size) h = (h, refl)
answer_fault text (parse_faults.Refused faults.Syntax) h = ((h.0, λ q spelled. none_is (map_ints clamp q) (read_text clamp text) (text_complete clamp text q h.0 spelled) h.1), refl)
answer_fault text (parse_faults.Refused faults.Integer) h =
    let s = text_sound clamp text h.0 h.1.1 in
    let e : has_exact_integers s.0 ≡ false = sym (clamp_tells s.0) ∙ (ap has_exact_integers s.2 ∙ h.2) in
    ((h.1.0, s.0, s.1, not_exact s.0 e), refl)
answer_fault text (parse_faults.Refused faults.Number) h =
    ((h.1.0, h.0, exact_spells text h.0 h.1.1 h.2.0, not_small h.0 h.2.0 h.2.1), refl)
answer_fault text (parse_faults.Refused faults.Function) h = absurd h
answer_fault text (parse_faults.Refused faults.Types) h = absurd h
answer_fault text parse_faults.Memory h = tt

pub answer_faults : (text : List ℕ) (r : Result Query ParseFault) → Meant text r → IfErr r (λ e. IsFirstFault text e)
answer_faults text (Ok q) h = tt
answer_faults text (Err e) h = answer_fault text e h

-- a query that is spelled within the size has the status of its tree
status_read : (text : List ℕ) (q : Segments) → IsFalse (is_oversized text) → TextSpells text q → query_of text ≡ status_by q (fault_of_query q)
unfolding query_of
status_read text q sized spelled =
    let read : read_text (λ i. i) text ≡ Some q = text_complete (λ i. i) text q sized spelled ∙ ap (λ (t : Segments). Some t) (map_itself q) in
    rw (sized, read) refl

pub answer_status : (text : List ℕ) (r : Result Query ParseFault) → Meant text r → TellsStatus text r
answer_status text (Ok q) h = status_read text (query_view q) h.0.0 (exact_spells text (query_view q) h.0.1 h.1.0)
answer_status text (Err (parse_faults.Refused fault)) h = sym (one_status text (refused_query fault) (answer_fault text (parse_faults.Refused fault) h).0)
answer_status text (Err parse_faults.Memory) h = tt
