-- Streams are shown apart from one another.
use Rattle.std.proofs.Common.{◌≡◌, ◌∙◌, ℕ, ◌-◌, List, [], ◌∷◌, ◌++◌, ap, ap₂, refl, sym, map, Bool, true, false, if◌then◌else◌}
use Rattle.std.specs.Prelude.{◌&&◌, ◌||◌, not, nat_lt}
use Rattle.std.specs.List.{list_all}
use Rattle.std.proofs.lemmas.Bool.{false≢true}
use Rattle.jp_context.specs.Groups.{Mark, left_after, marks_from, selected_soon, to_follow}
use Rattle.jp_context.specs.Near.{begins_anew, hidden, is_passed}
use Rattle.jp_context.specs.Told.{ToldRow}
use Rattle.jp_context.proofs.Kept.{and_false}
use Rattle.jp_context.proofs.Marks.{none_follow}

-- no row after a gap is seen from before it
soon_stops : (count : ℕ) (rows more : List ToldRow) → begins_anew more ≡ true → selected_soon count (rows ++ more) ≡ selected_soon count rows
soon_stops count [] [] h = refl
soon_stops count [] (row ∷ more) h = ap (λ first. nat_lt 0 count && (not first && (row.selected || selected_soon (count - 1) more))) h ∙ and_false (nat_lt 0 count)
soon_stops count (row ∷ rows) more h = ap (λ soon. nat_lt 0 count && (not row.first && (row.selected || soon))) (soon_stops (count - 1) rows more h)

-- and none follows one before it
none_carried : (before after left : ℕ) (rows : List ToldRow) → begins_anew rows ≡ true → marks_from before after left rows ≡ marks_from before after 0 rows
none_carried before after left [] h = refl
none_carried before after left (row ∷ more) h =
    let marked : ℕ → List Mark =
    λ (n : ℕ). record { row = row; shown = row.selected || (nat_lt 0 n || selected_soon before more) } ∷ marks_from before after (if row.selected then after else n - 1) more in
    ap (λ first. marked (if first then 0 else left)) h ∙ sym (ap (λ first. marked (if first then 0 else 0)) h)

apart_from : (before after left : ℕ) (rows more : List ToldRow) → begins_anew more ≡ true → marks_from before after left (rows ++ more) ≡ marks_from before after left rows ++ marks_from before after 0 more
apart_from before after left [] more h = none_carried before after left more h
apart_from before after left (row ∷ rows) more h =
    ap₂ (λ soon (marks : List Mark). record { row = row; shown = row.selected || (nat_lt 0 (to_follow left row) || soon) } ∷ marks) (soon_stops before rows more h)
    (apart_from before after (left_after after left row) rows more h)

pub shown_apart : (before after : ℕ) (rows more : List ToldRow) → begins_anew more ≡ true → marks_from before after 0 (rows ++ more) ≡ marks_from before after 0 rows ++ marks_from before after 0 more
shown_apart before after rows more h = apart_from before after 0 rows more h

passed_parts : (selected rest : Bool) → (not selected && rest) ≡ true → (selected ≡ false) × (rest ≡ true)
passed_parts true rest h = absurd (false≢true h)
passed_parts false rest h = (refl, h)

none_seen : (count : ℕ) (rows : List ToldRow) → list_all is_passed rows ≡ true → selected_soon count rows ≡ false
none_seen count [] h = refl
none_seen count (row ∷ rows) h =
    let parts = passed_parts row.selected (list_all is_passed rows) h in
    ap₂ (λ selected soon. nat_lt 0 count && (not row.first && (selected || soon))) parts.0 (none_seen (count - 1) rows parts.1)
    ∙ (ap (λ b. nat_lt 0 count && b) (and_false (not row.first)) ∙ and_false (nat_lt 0 count))

pub all_hidden : (before after : ℕ) (rows : List ToldRow) → list_all is_passed rows ≡ true → marks_from before after 0 rows ≡ map hidden rows
all_hidden before after [] h = refl
all_hidden before after (row ∷ rows) h =
    let parts = passed_parts row.selected (list_all is_passed rows) h in
    let none : to_follow 0 row - 1 ≡ 0 = elim row.first as (λ b. (if b then 0 else 0) - 1 ≡ 0) [ true ↦ refl | false ↦ refl ] in
    ap₂ (λ shown left. record { row = row; shown = shown } ∷ marks_from before after left rows)
    (ap (λ selected. selected || (nat_lt 0 (to_follow 0 row) || selected_soon before rows)) parts.0
    ∙ ap₂ (λ follows soon. follows || soon) (none_follow row) (none_seen before rows parts.1))
    (ap (λ selected. if selected then after else to_follow 0 row - 1) parts.0 ∙ none)
    ∙ ap (λ (marks : List Mark). hidden row ∷ marks) (all_hidden before after rows parts.1)
