-- Rows that stand one after another, and rows that are told.
use Rattle.std.proofs.Common.{◌≡◌, ◌∙◌, ℕ, ◌-◌, ◌==◌, List, [], ◌∷◌, ◌++◌, ap, ap₂, arith, drop, get_or, if◌then◌else◌, length, length-append, length-drop, refl, sum_by, take}
use Rattle.std.proofs.Math.Seq.{get_or-append_seam, take-append_seam}
use Rattle.std.proofs.lemmas.List.{drop-append-le, take-append-le, take_all}
use Rattle.std.proofs.lemmas.List.Sums.{sum_by-cons}
use Rattle.jp_sink.specs.Events.{Event, event_text, gap_event, node_event, row_event}
use Rattle.jp_tally.specs.Counting.{entries_in}
use Rattle.jp_tally.specs.Rows.{row_of, rows_told}
use Rattle.jp_tally.specs.Tallies.{Entry}
use Rattle.jp_tally.specs.declared.rows.Run.{Run}
use Rattle.jp_tally.proofs.Joining.{entry}

abbrev pub run_of : ℕ → ℕ → Run
run_of len count = record { len = len; count = count }

-- one more row
pub one_more : (text row : List ℕ) (runs : List Run) (count : ℕ) → sum_by (λ (run : Run). run.len) runs ≡ length text
    → entries_in (text ++ row) (runs ++ run_of (length row) count ∷ []) ≡ entries_in text runs ++ entry row count ∷ []
one_more [] row [] count h = ap (λ (r : List ℕ). entry r count ∷ []) (take_all (length row) row (omega arith))
one_more (b ∷ text) row [] count h = absurd (omega (arith, h))
one_more text row (run ∷ runs) count h =
    let whole = sum_by-cons (λ (run : Run). run.len) run runs in
    let left = length-drop run.len text in
    ap₂ (λ (first : List ℕ) (rest : List ℕ). entry first run.count ∷ entries_in rest (runs ++ run_of (length row) count ∷ []))
    (take-append-le run.len text row (omega (arith, h, whole))) (drop-append-le run.len text row (omega (arith, h, whole)))
    ∙ ap (λ (entries : List Entry). entry (take run.len text) run.count ∷ entries) (one_more (drop run.len text) row runs count (omega (arith, h, whole, left)))

-- the rows of events, and of more
pub told_more : (told more : List Event) → rows_told (told ++ more) ≡ rows_told told ++ rows_told more
told_more [] more = refl
told_more (gap_event ∷ told) more = told_more told more
told_more (row_event selected text ∷ told) more = ap (λ (rows : List (List ℕ)). row_of text ∷ rows) (told_more told more)
told_more (node_event n line node ∷ told) more = ap (λ (rows : List (List ℕ)). row_of (event_text (node_event n line node)) ∷ rows) (told_more told more)

-- a row that a line feed ends
pub row_before_feed : (row : List ℕ) → row_of (row ++ 0x0A ∷ []) ≡ row
row_before_feed row =
    let long = length-append row (0x0A ∷ []) in
    let last : length (row ++ 0x0A ∷ []) - 1 ≡ length row = omega (arith, long) in
    ap (λ n. if get_or (row ++ 0x0A ∷ []) n 0 == 0x0A then take n (row ++ 0x0A ∷ []) else row ++ 0x0A ∷ []) last
    ∙ (ap (λ b. if b == 0x0A then take (length row) (row ++ 0x0A ∷ []) else row ++ 0x0A ∷ []) (get_or-append_seam row 0x0A [] 0) ∙ take-append_seam row (0x0A ∷ []))
