-- A row of a stream is shown where it is near one that is selected.
use Rattle.std.proofs.Common.{◌≡◌, ◌∙◌, ℕ, zero, ◌+◌, ◌-◌, ◌<◌, ◌≤◌, List, [], ◌∷◌, length, ap, ap₂, refl, sym, arith, Bool, true, false, if◌then◌else◌}
use Rattle.std.specs.Prelude.{suc, ⊤, ◌&&◌, ◌||◌, not, nat_lt}
use Rattle.std.specs.List.{list_all}
use Rattle.std.proofs.lemmas.Bool.{false≢true, lt-ltb, ltb-true}
use Rattle.jp_context.specs.Groups.{left_after, marks, marks_from, selected_soon, to_follow}
use Rattle.jp_context.specs.Near.{IsNear, goes_on, is_stream, selected_at, shown_at}
use Rattle.jp_context.specs.Told.{ToldRow}

both : (a b : Bool) → (a && b) ≡ true → (a ≡ true) × (b ≡ true)
both true b h = (refl, h)
both false b h = absurd (false≢true h)

or_left : (a b : Bool) → a ≡ true → (a || b) ≡ true
or_left a b h = ap (λ t. t || b) h

or_right : (a b : Bool) → b ≡ true → (a || b) ≡ true
or_right true b h = refl
or_right false b h = h

is_not : (b : Bool) → not b ≡ true → b ≡ false
is_not true h = absurd (false≢true h)
is_not false h = refl

-- one of the next rows is selected
soon_found : (count : ℕ) (rows : List ToldRow) → list_all goes_on rows ≡ true → selected_soon count rows ≡ true
    → (place : ℕ) × (selected_at rows place ≡ true) × (place < count)
soon_found count [] goes h = absurd (false≢true h)
soon_found count (row ∷ more) goes h =
    let later = selected_soon (count - 1) more in
    let parts = both (nat_lt 0 count) (not row.first && (row.selected || later)) h in
    let some = (both (not row.first) (row.selected || later) parts.1).1 in
    let low = ltb-true 0 count parts.0 in
    elim row.selected as (λ t. row.selected ≡ t → (place : ℕ) × (selected_at (row ∷ more) place ≡ true) × (place < count)) [
      | true ↦ λ is. (0, is, low)
      | false ↦ λ other.
          let next = soon_found (count - 1) more (both (goes_on row) (list_all goes_on more) goes).1 (sym (ap (λ b. b || later) other) ∙ some) in
          (suc next.0, next.1, let less = next.2 in omega (arith, less, low))
    ] refl

first_soon : (count : ℕ) (row : ToldRow) (more : List ToldRow) → 0 < count → goes_on row ≡ true → (row.selected || selected_soon (count - 1) more) ≡ true
    → selected_soon count (row ∷ more) ≡ true
first_soon count row more low goes is = ap₂ (λ a b. a && (b && (row.selected || selected_soon (count - 1) more))) (lt-ltb 0 count low) goes ∙ is

soon_from : (count : ℕ) (rows : List ToldRow) (place : ℕ) → list_all goes_on rows ≡ true → selected_at rows place ≡ true → place < count → selected_soon count rows ≡ true
soon_from count [] place goes is low = absurd (false≢true is)
soon_from count (row ∷ more) zero goes is low =
    first_soon count row more low (both (goes_on row) (list_all goes_on more) goes).0 (or_left row.selected (selected_soon (count - 1) more) is)
soon_from count (row ∷ more) (suc place) goes is low =
    let parts = both (goes_on row) (list_all goes_on more) goes in
    first_soon count row more (omega (arith, low)) parts.0
    (or_right row.selected (selected_soon (count - 1) more) (soon_from (count - 1) more place parts.1 is (omega (arith, low))))

-- `left` rows are to follow, whether the first of them begins a stream or not
abbrev Flows : (left : ℕ) → List ToldRow → Type 0
Flows left [] = ⊤
Flows left (row ∷ more) = (to_follow left row ≡ left) × (list_all goes_on more ≡ true)

flows_on : (left : ℕ) (rows : List ToldRow) → list_all goes_on rows ≡ true → Flows left rows
flows_on left [] goes = tt
flows_on left (row ∷ more) goes =
    let parts = both (goes_on row) (list_all goes_on more) goes in (ap (λ b. if b then 0 else left) (is_not row.first parts.0), parts.1)

same_either : (n : ℕ) (b : Bool) → (if b then n else n) ≡ n
same_either n true = refl
same_either n false = refl

flows_first : (rows : List ToldRow) → is_stream rows ≡ true → Flows 0 rows
flows_first [] goes = tt
flows_first (row ∷ more) goes = (same_either 0 row.first, goes)

module _ (before after : ℕ) where
  after_selected : (left : ℕ) (row : ToldRow) → row.selected ≡ true → left_after after left row ≡ after
  after_selected left row is = ap (λ b. if b then after else to_follow left row - 1) is

  after_other : (left : ℕ) (row : ToldRow) → to_follow left row ≡ left → row.selected ≡ false → left_after after left row ≡ left - 1
  after_other left row same other = ap (λ b. if b then after else to_follow left row - 1) other ∙ ap (λ n. n - 1) same

  few_after : (left : ℕ) (row : ToldRow) → to_follow left row ≡ left → left ≤ after → left_after after left row ≤ after
  few_after left row same few =
      elim row.selected as (λ t. row.selected ≡ t → left_after after left row ≤ after) [
        | true ↦ λ is. let all = after_selected left row is in omega (arith, all)
        | false ↦ λ other. let one_less = after_other left row same other in omega (arith, one_less, few)
      ] refl

  -- a row that is shown is near one that is selected, or is still to follow one
  found : (left : ℕ) (rows : List ToldRow) (place : ℕ) (P : Type 0) → Flows left rows → left ≤ after → shown_at (marks_from before after left rows) place ≡ true
      → (IsNear before after rows place → P) → (place < left → P) → P
  found left [] place P flows few h near follows = absurd (false≢true h)
  found left (row ∷ more) zero P flows few h near follows =
      elim row.selected as (λ t. row.selected ≡ t → P) [
        | true ↦ λ is. near (0, is, omega arith, omega arith)
        | false ↦ λ other. elim (nat_lt 0 (to_follow left row)) as (λ t. nat_lt 0 (to_follow left row) ≡ t → P) [
          | true ↦ λ is. follows (let some = ltb-true 0 (to_follow left row) is in let same = flows.0 in omega (arith, some, same))
          | false ↦ λ none.
              let next = soon_found before more flows.1 (sym (ap₂ (λ a b. a || (b || selected_soon before more)) other none) ∙ h) in
              let low = next.2 in near (suc next.0, next.1, omega (arith, low), omega arith)
        ] refl
      ] refl
  found left (row ∷ more) (suc place) P flows few h near follows =
      let next = left_after after left row in
      found next more place P (flows_on next more flows.1) (few_after left row flows.0 few) h
      (λ n. let low = n.2 in let high = n.3 in near (suc n.0, n.1, omega (arith, low), omega (arith, high)))
      (λ below. elim row.selected as (λ t. row.selected ≡ t → P) [
        | true ↦ λ is. let all = after_selected left row is in near (0, is, omega arith, omega (arith, below, all))
        | false ↦ λ other. let one_less = after_other left row flows.0 other in follows (omega (arith, below, one_less))
      ] refl)

  -- a row that is still to follow is shown
  follower_shown : (left : ℕ) (rows : List ToldRow) (place : ℕ) → Flows left rows → left ≤ after → place < length rows → place < left
      → shown_at (marks_from before after left rows) place ≡ true
  follower_shown left [] place flows few in_rows below = absurd (omega (arith, in_rows))
  follower_shown left (row ∷ more) zero flows few in_rows below =
      let same = flows.0 in
      or_right row.selected (nat_lt 0 (to_follow left row) || selected_soon before more)
      (or_left (nat_lt 0 (to_follow left row)) (selected_soon before more) (lt-ltb 0 (to_follow left row) (omega (arith, below, same))))
  follower_shown left (row ∷ more) (suc place) flows few in_rows below =
      let next = left_after after left row in
      follower_shown next more place (flows_on next more flows.1) (few_after left row flows.0 few) (omega (arith, in_rows))
      (elim row.selected as (λ t. row.selected ≡ t → place < next) [
        | true ↦ λ is. let all = after_selected left row is in omega (arith, all, few, below)
        | false ↦ λ other. let one_less = after_other left row flows.0 other in omega (arith, one_less, below)
      ] refl)

  near_shown : (left : ℕ) (rows : List ToldRow) (place chosen : ℕ) → Flows left rows → left ≤ after → place < length rows
      → selected_at rows chosen ≡ true → chosen ≤ place + before → place ≤ chosen + after → shown_at (marks_from before after left rows) place ≡ true
  near_shown left [] place chosen flows few in_rows is low high = absurd (omega (arith, in_rows))
  near_shown left (row ∷ more) zero zero flows few in_rows is low high = or_left row.selected (nat_lt 0 (to_follow left row) || selected_soon before more) is
  near_shown left (row ∷ more) zero (suc chosen) flows few in_rows is low high =
      or_right row.selected (nat_lt 0 (to_follow left row) || selected_soon before more)
      (or_right (nat_lt 0 (to_follow left row)) (selected_soon before more) (soon_from before more chosen flows.1 is (omega (arith, low))))
  near_shown left (row ∷ more) (suc place) zero flows few in_rows is low high =
      let next = left_after after left row in
      let all = after_selected left row is in
      follower_shown next more place (flows_on next more flows.1) (few_after left row flows.0 few) (omega (arith, in_rows)) (omega (arith, all, high))
  near_shown left (row ∷ more) (suc place) (suc chosen) flows few in_rows is low high =
      let next = left_after after left row in
      near_shown next more place chosen (flows_on next more flows.1) (few_after left row flows.0 few) (omega (arith, in_rows)) is (omega (arith, low)) (omega (arith, high))

  pub shown_is_near : (rows : List ToldRow) → is_stream rows ≡ true → (place : ℕ) → shown_at (marks before after rows) place ≡ true → IsNear before after rows place
  shown_is_near rows stream place h =
      found 0 rows place (IsNear before after rows place) (flows_first rows stream) (omega arith) h (λ near. near) (λ none. absurd (omega (arith, none)))

  pub near_is_shown : (rows : List ToldRow) → is_stream rows ≡ true → (place : ℕ) → place < length rows → IsNear before after rows place → shown_at (marks before after rows) place ≡ true
  near_is_shown rows stream place in_rows near = near_shown 0 rows place near.0 (flows_first rows stream) (omega arith) in_rows near.1 near.2 near.3
