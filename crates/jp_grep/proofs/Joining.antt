-- Bytes without their line breaks, up to the first of them.
use Rattle.std.proofs.Common.{◌≡◌, ◌∙◌, ℕ, zero, List, [], ◌∷◌, ◌++◌, take, drop, length, refl, sym, ap, arith, true, false, filter, cond, ◌+◌, append_assoc}
use Rattle.std.specs.Prelude.{suc, Some, None, not, slice_range}
use Rattle.std.proofs.lemmas.List.{take_rest}
use Rattle.memchr.specs.Find.{IsFirstByte, is_byte2}
use Rattle.jp_grep.specs.Spelled.{is_line_break}

abbrev pub joined : List ℕ → List ℕ
joined bytes = filter (λ byte. not (is_line_break byte)) bytes

kept : (b : ℕ) (rest : List ℕ) → (is_line_break b ≡ true → ⊥) → joined (b ∷ rest) ≡ b ∷ joined rest
kept b rest h =
    elim (is_line_break b) as (λ t. is_line_break b ≡ t → cond (not t) (b ∷ joined rest) (joined rest) ≡ b ∷ joined rest) [
      | true ↦ λ e. absurd (h e)
      | false ↦ λ e. refl
    ] refl

-- with no line break all bytes stay
pub all_kept : (bytes : List ℕ) → IsFirstByte (is_byte2 10 13) bytes None → joined bytes ≡ bytes
all_kept [] h = refl
all_kept (b ∷ rest) h =
    kept b rest (h 0 (omega arith) (omega arith))
    ∙ ap (λ l. b ∷ l) (all_kept rest (λ k l m t. h (suc k) (omega arith) (omega arith) t))

-- all bytes in front of the first one stay
pub front_kept : (bytes : List ℕ) (at : ℕ) → IsFirstByte (is_byte2 10 13) bytes (Some at) → joined bytes ≡ take at bytes ++ joined (drop (suc at) bytes)
front_kept [] at h = absurd (let l = h.0.high in omega arith)
front_kept (b ∷ rest) zero h = ap (λ t. cond (not t) (b ∷ joined rest) (joined rest)) h.1
front_kept (b ∷ rest) (suc at) h =
    kept b rest (h.0.before 0 (omega arith) (omega arith))
    ∙ ap (λ l. b ∷ l) (front_kept rest at (record { low = omega arith; high = let l = h.0.high in omega arith; before = λ k l m t. h.0.before (suc k) (omega arith) (omega arith) t }, h.1))

-- what one turn of the loop appends
pub appended_front : (rest : List ℕ) (at : ℕ) (was now all : List ℕ) → IsFirstByte (is_byte2 10 13) rest (Some at) → was ++ joined rest ≡ all → now ≡ was ++ take at rest
    → now ++ joined (slice_range rest (at + 1) (length rest)) ≡ all
appended_front rest at was now all first before is =
    let next : suc at ≡ at + 1 = omega arith in
    ap (λ l. l ++ joined (slice_range rest (at + 1) (length rest))) is
    ∙ append_assoc was (take at rest) (joined (slice_range rest (at + 1) (length rest)))
    ∙ ap (λ l. was ++ (take at rest ++ joined l)) (take_rest rest (at + 1) ∙ ap (λ n. drop n rest) (sym next))
    ∙ ap (λ l. was ++ l) (sym (front_kept rest at first))
    ∙ before
