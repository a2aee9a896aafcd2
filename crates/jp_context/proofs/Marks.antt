-- Which rows are shown.
use Rattle.std.proofs.Common.{◌≡◌, ◌∙◌, ℕ, ◌-◌, List, [], ◌∷◌, ap, ap₂, refl, map, Bool, true, false, if◌then◌else◌}
use Rattle.std.specs.Prelude.{All, ◌||◌, nat_lt}
use Rattle.std.proofs.lemmas.List.Elements.{All-cons, All-nil}
use Rattle.jp_context.specs.Groups.{Mark, is_shown, left_after, marks_from, selected_soon, to_follow}
use Rattle.jp_context.specs.Told.{ToldRow}

-- each row has one mark
pub rows_of_marks : (before after left : ℕ) (rows : List ToldRow) → map (λ mark. mark.row) (marks_from before after left rows) ≡ rows
rows_of_marks before after left [] = refl
rows_of_marks before after left (row ∷ more) = ap (λ (rows : List ToldRow). row ∷ rows) (rows_of_marks before after (left_after after left row) more)

abbrev shown_where_selected : Mark → Type 0
shown_where_selected mark = mark.row.selected ≡ true → mark.shown ≡ true

pub selected_shown : (before after left : ℕ) (rows : List ToldRow) → All shown_where_selected (marks_from before after left rows)
selected_shown before after left [] = All-nil shown_where_selected
selected_shown before after left (row ∷ more) =
    All-cons shown_where_selected (record { row = row; shown = is_shown before left row more }) (marks_from before after (left_after after left row) more)
    (λ is. ap (λ b. b || (nat_lt 0 (to_follow left row) || selected_soon before more)) is) (selected_shown before after (left_after after left row) more)

-- with no context none is still to follow, and none is looked for
pub none_follow : (row : ToldRow) → nat_lt 0 (to_follow 0 row) ≡ false
none_follow row = elim row.first as (λ b. nat_lt 0 (if b then 0 else 0) ≡ false) [ true ↦ refl | false ↦ refl ]

none_left : (row : ToldRow) → left_after 0 0 row ≡ 0
none_left row =
    elim row.selected as (λ s. (if s then 0 else to_follow 0 row - 1) ≡ 0) [
      | true ↦ refl
      | false ↦ elim row.first as (λ b. (if b then 0 else 0) - 1 ≡ 0) [ true ↦ refl | false ↦ refl ]
    ]

none_soon : (rows : List ToldRow) → selected_soon 0 rows ≡ false
none_soon [] = refl
none_soon (row ∷ more) = refl

or_none : (b : Bool) → (b || (false || false)) ≡ b
or_none true = refl
or_none false = refl

pub selected_alone : (rows : List ToldRow) → map (λ mark. mark.shown) (marks_from 0 0 0 rows) ≡ map (λ row. row.selected) rows
selected_alone [] = refl
selected_alone (row ∷ more) =
    ap₂ (λ (b : Bool) (bs : List Bool). b ∷ bs)
    (ap₂ (λ b c. row.selected || (b || c)) (none_follow row) (none_soon more) ∙ or_none row.selected)
    (ap (λ left. map (λ mark. mark.shown) (marks_from 0 0 left more)) (none_left row) ∙ selected_alone more)
