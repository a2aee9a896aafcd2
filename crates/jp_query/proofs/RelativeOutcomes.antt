-- What an answer for the text of a rel-query means.
use Rattle.std.proofs.Common.{◌≡◌, ◌∙◌, ℕ, ℤ, List, ◌∷◌, Bool, true, false, cond, IsUtf8, chars, None, Result, Ok, Err, refl, sym, ap, subst, ⊎_elim}
use Rattle.std.specs.Str.{is_utf8}
use Rattle.std.proofs.lemmas.Str.{IsUtf8-from_is_utf8, is_utf8-from_IsUtf8}
use Rattle.jp_model.specs.declared.QueryFault.TheVariants as faults
use Rattle.jp_model.specs.Query.Syntax.{Origin, root, current, Segments}
use Rattle.jp_query.specs.Answers.{TellsStatus, TellsRelativeStatus}
use Rattle.jp_query.specs.Integers.{clamp}
use Rattle.jp_query.specs.Outcome.{Passes, PassesBehind, Meant, MeantBehind}
use Rattle.jp_query.specs.Reading.Queries.{relative_at}
use Rattle.jp_query.specs.Status.{read_relative, read_behind}
use Rattle.jp_syntax.specs.Queries.{query_view}
use Rattle.jp_syntax.specs.WellFormed.{IsWellFormed}
use Rattle.jp_query.specs.declared.fault.ParseFault.{ParseFault}
use Rattle.jp_query.specs.declared.fault.ParseFault.TheVariants as parse_faults
use Rattle.jp_syntax.specs.declared.query.Query.{Query}
use Rattle.jp_query.proofs.Outcomes.{answer_status, not_read, well_formed}
use Rattle.jp_query.proofs.Relatives.{Front, front, other_status, reads_at, same_read, same_status, status_without}

-- ---- what is read

-- a text that is not UTF-8 is not read after an identifier
pub not_read_behind : (origin : Origin) (f : ℤ → ℤ) (text : List ℕ) → (IsUtf8 text → ⊥) → read_behind origin f text ≡ None
unfolding read_relative
not_read_behind root f text h = not_read f text h
not_read_behind current f text h = step (is_utf8 text) refl
  where
    step : (t : Bool) → is_utf8 text ≡ t → cond t (relative_at f 512 (chars text)) None ≡ None
    step true e = absurd (h (IsUtf8-from_is_utf8 text e))
    step false e = refl

-- UTF-8 is read as a rel-query from its scalars
pub relative_of_scalars : (f : ℤ → ℤ) (text : List ℕ) → IsUtf8 text → read_relative f text ≡ relative_at f 512 (chars text)
unfolding read_relative
relative_of_scalars f text u = rw (is_utf8-from_IsUtf8 text u) refl

-- a tree within its limits is one of the query with `$` in the place of `@`
passes_query : (rest : List ℕ) (q : Segments) → PassesBehind current (64 ∷ rest) q → Passes (36 ∷ rest) q
passes_query rest q h = ((h.0.0, sym (same_read clamp rest) ∙ h.0.1), h.1)

-- a tree that is read after an identifier and within its limits is well formed
pub well_formed_behind : (origin : Origin) (text : List ℕ) (q : Segments) → PassesBehind origin text q → IsWellFormed q
well_formed_behind root text q p = well_formed text q p
well_formed_behind current text q p =
    let f = reads_at clamp text q p.0.1 in
    well_formed (36 ∷ f.0) q (passes_query f.0 q (subst (λ t. PassesBehind current t q) f.1 p))

-- ---- what is answered

meant_query : (rest : List ℕ) (r : Result Query ParseFault) → MeantBehind current (64 ∷ rest) r → Meant (36 ∷ rest) r
meant_query rest (Ok q) h = passes_query rest (query_view q) h
meant_query rest (Err (parse_faults.Refused faults.Size)) h = h
meant_query rest (Err (parse_faults.Refused faults.Syntax)) h = (h.0, sym (same_read clamp rest) ∙ h.1)
meant_query rest (Err (parse_faults.Refused faults.Integer)) h = (h.0, (h.1.0, sym (same_read clamp rest) ∙ h.1.1), h.2)
meant_query rest (Err (parse_faults.Refused faults.Number)) h = (h.0, (h.1.0, sym (same_read clamp rest) ∙ h.1.1), h.2)
meant_query rest (Err (parse_faults.Refused faults.Function)) h = h
meant_query rest (Err (parse_faults.Refused faults.Types)) h = h
meant_query rest (Err parse_faults.Memory) h = tt

told_of_query : (rest : List ℕ) (r : Result Query ParseFault) → TellsStatus (36 ∷ rest) r → TellsRelativeStatus (64 ∷ rest) r
told_of_query rest (Ok q) h = same_status rest ∙ h
told_of_query rest (Err (parse_faults.Refused fault)) h = same_status rest ∙ h
told_of_query rest (Err parse_faults.Memory) h = tt

-- of a text that does not begin with `@`
told_without : (text : List ℕ) → (Front text → ⊥) → (r : Result Query ParseFault) → MeantBehind current text r → TellsRelativeStatus text r
told_without text none (Ok q) h = absurd (none (reads_at clamp text (query_view q) h.0.1))
told_without text none (Err (parse_faults.Refused faults.Size)) h = status_without text none ∙ ap other_status h
told_without text none (Err (parse_faults.Refused faults.Syntax)) h = status_without text none ∙ ap other_status h.0
told_without text none (Err (parse_faults.Refused faults.Integer)) h = absurd (none (reads_at clamp text h.0 h.1.1))
told_without text none (Err (parse_faults.Refused faults.Number)) h = absurd (none (reads_at clamp text h.0 h.1.1))
told_without text none (Err (parse_faults.Refused faults.Function)) h = absurd h
told_without text none (Err (parse_faults.Refused faults.Types)) h = absurd h
told_without text none (Err parse_faults.Memory) h = tt

pub answer_relative_status : (text : List ℕ) (r : Result Query ParseFault) → MeantBehind current text r → TellsRelativeStatus text r
answer_relative_status text r h = ⊎_elim
    (λ f. subst (λ t. TellsRelativeStatus t r) (sym f.1)
    (told_of_query f.0 r (answer_status (36 ∷ f.0) r (meant_query f.0 r (subst (λ t. MeantBehind current t r) f.1 h)))))
    (λ none. told_without text none r h)
    (front text)
