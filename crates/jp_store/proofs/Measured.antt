-- One line more is counted.
use Rattle.std.proofs.Common.{◌≡◌, ◌∙◌, ◌<◌, ◌≤◌, ◌+◌, ℕ, List, [], ◌∷◌, ◌++◌, length, map, take, get_or, sym, ap, subst, arith, zero-add, take_all}
use Rattle.std.specs.Prelude.{count_by, cond, All}
use Rattle.std.proofs.lemmas.List.{take_more, take-map, map-append, length-map, length-take-le}
use Rattle.std.proofs.lemmas.List.Sums.{sum_by-append, sum_by-take-drop, count_by-le-length}
use Rattle.jp_model.specs.declared.Framing.{Framing}
use Rattle.jp_model.specs.Json.Reader.{status_of}
use Rattle.jp_model.specs.Plans.{is_tree}
use Rattle.jp_model.specs.Script.Machine.{bytes_held, statuses, is_refused_status}
use Rattle.jp_lines.specs.declared.line.Line.{Line}
use Rattle.jp_store.specs.declared.counts.Counts.{Counts}
use Rattle.jp_model.specs.Numbered.{numbers_where}
use Rattle.jp_store.specs.Stored.{AreCounted}
use Rattle.jp_lines.specs.Stored.{told_of, IsRead, stored_text, is_tree_status, is_fault_status}
use Rattle.jp_index.specs.Numbered.{with_number}
use Rattle.jp_store.proofs.Kept.{told_is_fault, told_is_tree}
use Rattle.jp_index.proofs.Numbered.{lines_more}

module _ (bytes : List ℕ) (lines : List Line) (i : ℕ) (line : Line) (within : i < length lines) (here : line ≡ get_or lines i line) where
  abbrev texts : ℕ → List (List ℕ)
  texts n = map (stored_text bytes) (take n lines)

  text_more : texts (i + 1) ≡ texts i ++ stored_text bytes line ∷ []
  text_more =
      ap (map (stored_text bytes)) (take_more lines i line within ∙ ap (λ l. take i lines ++ l ∷ []) (sym here))
      ∙ map-append (stored_text bytes) (take i lines) (line ∷ [])

  pub held_more : bytes_held (texts (i + 1)) ≡ bytes_held (texts i) + (length (stored_text bytes line) + 1)
  held_more = ap bytes_held text_more ∙ sum_by-append (λ l. length l + 1) (texts i) (stored_text bytes line ∷ [])
      ∙ ap (λ n. bytes_held (texts i) + n) (zero-add (length (stored_text bytes line) + 1))

  module _ (framing : Framing) (tapes : List ℕ) (all : All (IsRead framing bytes tapes) lines) where
    read : IsRead framing bytes tapes line
    read = subst (IsRead framing bytes tapes) (sym here) (all i line within)

    statuses_more : statuses framing (texts (i + 1)) ≡ statuses framing (texts i) ++ status_of framing (stored_text bytes line) ∷ []
    statuses_more = ap (statuses framing) text_more ∙ map-append (status_of framing) (texts i) (stored_text bytes line ∷ [])

    pub trees_more : count_by is_tree (statuses framing (texts (i + 1))) ≡ count_by is_tree (statuses framing (texts i)) + cond (is_tree_status (told_of line)) 1 0
    trees_more =
        ap (count_by is_tree) statuses_more
        ∙ sum_by-append (λ s. cond (is_tree s) 1 0) (statuses framing (texts i)) (status_of framing (stored_text bytes line) ∷ [])
        ∙ ap (λ n. count_by is_tree (statuses framing (texts i)) + n) (zero-add (cond (is_tree (status_of framing (stored_text bytes line))) 1 0))
        ∙ ap (λ b. count_by is_tree (statuses framing (texts i)) + cond b 1 0) (sym (told_is_tree framing (told_of line) (stored_text bytes line) read.told))

    pub refused_more : with_number (i + 1) (is_fault_status (told_of line)) (numbers_where is_refused_status 1 (statuses framing (texts i))) ≡ numbers_where is_refused_status 1 (statuses framing (texts (i + 1)))
    refused_more =
        let status = status_of framing (stored_text bytes line) in
        let size : length (statuses framing (texts i)) ≡ i =
        length-map (texts i) (status_of framing) ∙ length-map (take i lines) (stored_text bytes) ∙ length-take-le i lines (omega (arith, within)) in
        ap (λ b. with_number (i + 1) b (numbers_where is_refused_status 1 (statuses framing (texts i)))) (told_is_fault framing (told_of line) (stored_text bytes line) read.told)
        ∙ (lines_more is_refused_status 1 (statuses framing (texts i)) (i + 1) status (omega (arith, size)) ∙ ap (numbers_where is_refused_status 1) (sym statuses_more))

-- what was counted of all
pub all_counted : (framing : Framing) (bytes : List ℕ) (lines : List Line) (i : ℕ) (counts : Counts) → length lines ≤ i → AreCounted framing (map (stored_text bytes) (take i lines)) counts
    → AreCounted framing (map (stored_text bytes) lines) counts
all_counted framing bytes lines i counts past counted = subst (λ ls. AreCounted framing (map (stored_text bytes) ls) counts) (take_all i lines past) counted

-- the lines so far hold no more than all
pub held_part : (bytes : List ℕ) (lines : List Line) (i : ℕ) → bytes_held (map (stored_text bytes) (take i lines)) ≤ bytes_held (map (stored_text bytes) lines)
held_part bytes lines i =
    let f : List ℕ → ℕ = λ l. length l + 1 in
    let all = map (stored_text bytes) lines in
    let same : map (stored_text bytes) (take i lines) ≡ take i all = sym (take-map (stored_text bytes) i lines) in
    omega (arith, ap bytes_held same, sum_by-take-drop f all i)

pub trees_few : (framing : Framing) (bytes : List ℕ) (lines : List Line) (i : ℕ) → i ≤ length lines → count_by is_tree (statuses framing (map (stored_text bytes) (take i lines))) ≤ i
trees_few framing bytes lines i within =
    let some = map (stored_text bytes) (take i lines) in
    omega (arith, count_by-le-length is_tree (statuses framing some), length-map some (status_of framing), length-map (take i lines) (stored_text bytes), length-take-le i lines within)
