-- What is shown of rows stays when more come.
use Rattle.std.proofs.Common.{◌≡◌, ◌∙◌, ℕ, ◌-◌, List, [], ◌∷◌, ◌++◌, ap, refl, sym, arith, append_assoc, Bool, true, false, if◌then◌else◌}
use Rattle.std.specs.Prelude.{◌&&◌, ◌||◌, not, nat_lt}
use Rattle.std.specs.List.{list_all}
use Rattle.std.proofs.lemmas.Bool.{ltb-false}
use Rattle.jp_devices.specs.Devices.{Begins}
use Rattle.jp_context.specs.Groups.{context_text, is_shown, left_after, parted, selected_soon, separator, shown_before, to_follow}
use Rattle.jp_context.specs.Steps.{text_from}
use Rattle.jp_context.specs.Told.{ToldRow}
use Rattle.jp_context.specs.declared.shown.Shown.{Shown}
use Rattle.jp_context.specs.declared.shown.Shown.TheVariants as showing
use Rattle.jp_context.proofs.Writing.{begins_with}

-- rows of one stream, of which none is selected
abbrev is_plain : ToldRow → Bool
is_plain row = not row.first && not row.selected

-- rows after which one is selected, and among which none is
plain_before : (first selected seen more : Bool) (wanted : Bool)
    → (wanted && (not first && (selected || seen))) ≡ false → (wanted && (not first && (selected || more))) ≡ true
    → (first ≡ false) × (selected ≡ false) × (seen ≡ false) × (more ≡ true)
plain_before true selected seen more true h g = absurd (grind arith)
plain_before false true seen more true h g = absurd (grind arith)
plain_before false false seen more true h g = (refl, refl, h, g)
plain_before first selected seen more false h g = absurd (grind arith)

plain_both : (first selected : Bool) → first ≡ false → selected ≡ false → (not first && not selected) ≡ true
plain_both true selected h g = absurd (grind arith)
plain_both false true h g = absurd (grind arith)
plain_both false false h g = refl

all_plain : (count : ℕ) (rows more : List ToldRow) → selected_soon count rows ≡ false → selected_soon count (rows ++ more) ≡ true → list_all is_plain rows ≡ true
all_plain count [] more h g = refl
all_plain count (row ∷ rows) more h g =
    let parts = plain_before row.first row.selected (selected_soon (count - 1) rows) (selected_soon (count - 1) (rows ++ more)) (nat_lt 0 count) h g in
    ap (λ b. b && list_all is_plain rows) (plain_both row.first row.selected parts.0 parts.1) ∙ all_plain (count - 1) rows more parts.2 parts.3

plain_parts : (first selected rest : Bool) → ((not first && not selected) && rest) ≡ true → (first ≡ false) × (selected ≡ false) × (rest ≡ true)
plain_parts true selected rest h = absurd (grind arith)
plain_parts false true rest h = absurd (grind arith)
plain_parts false false rest h = (refl, refl, h)

none_to_see : (count : ℕ) (rows : List ToldRow) → list_all is_plain rows ≡ true → selected_soon count rows ≡ false
none_to_see count [] h = refl
none_to_see count (row ∷ rows) h =
    let parts = plain_parts row.first row.selected (list_all is_plain rows) h in
    elim (nat_lt 0 count) as (λ w. (w && (not row.first && (row.selected || selected_soon (count - 1) rows))) ≡ false) [
      | true ↦ ap (λ b. not b && (row.selected || selected_soon (count - 1) rows)) parts.0
          ∙ (ap (λ b. b || selected_soon (count - 1) rows) parts.1 ∙ none_to_see (count - 1) rows parts.2)
      | false ↦ refl
    ]

module _ (coloured : Bool) (before after : ℕ) where
  -- the text of rows of which the first is shown, and where it is not
  abbrev text_by : Bool → ℕ → Shown → ToldRow → List ToldRow → List ℕ
  text_by is left shown row more =
      if is then separator coloured (shown_before shown row) ++ (row.text ++ text_from coloured before after (left_after after left row) showing.Neighbour more)
      else text_from coloured before after (left_after after left row) (parted shown) more

  none_left : (left : ℕ) (row : ToldRow) → row.first ≡ false → row.selected ≡ false → left_after after left row ≡ left - 1
  none_left left row first selected = ap (λ b. if b then after else to_follow left row - 1) selected ∙ ap (λ b. (if b then 0 else left) - 1) first

  plain_text : (shown : Shown) (rows : List ToldRow) → list_all is_plain rows ≡ true → text_from coloured before after 0 shown rows ≡ []
  plain_text shown [] h = refl
  plain_text shown (row ∷ rows) h =
      let parts = plain_parts row.first row.selected (list_all is_plain rows) h in
      let hidden : is_shown before 0 row rows ≡ false =
      ap (λ b. b || (nat_lt 0 (to_follow 0 row) || selected_soon before rows)) parts.1
      ∙ (ap (λ b. nat_lt 0 (if b then 0 else 0) || selected_soon before rows) parts.0 ∙ none_to_see before rows parts.2) in
      ap (λ is. text_by is 0 shown row rows) hidden
      ∙ (ap (λ left. text_from coloured before after left (parted shown) rows) (none_left 0 row parts.0 parts.1) ∙ plain_text (parted shown) rows parts.2)

  abbrev Stays : ℕ → Shown → List ToldRow → List ToldRow → Type 0
  Stays left shown rows more = (rest : List ℕ) × (text_from coloured before after left shown (rows ++ more) ≡ text_from coloured before after left shown rows ++ rest)

  -- a row that is shown stays so
  soon_stays : (count : ℕ) (rows more : List ToldRow) → selected_soon count rows ≡ true → selected_soon count (rows ++ more) ≡ true
  soon_stays count [] more h = absurd (grind arith)
  soon_stays count (row ∷ rows) more h =
      soon_more row.first row.selected (selected_soon (count - 1) rows) (selected_soon (count - 1) (rows ++ more)) (nat_lt 0 count) h (soon_stays (count - 1) rows more)
    where
      soon_more : (first selected seen more wanted : Bool) → (wanted && (not first && (selected || seen))) ≡ true → (seen ≡ true → more ≡ true) → (wanted && (not first && (selected || more))) ≡ true
      soon_more first selected seen more false h g = absurd (grind arith)
      soon_more true selected seen more true h g = absurd (grind arith)
      soon_more false true seen more true h g = refl
      soon_more false false seen more true h g = g h

  shown_stays : (selected follows seen more : Bool) → (selected || (follows || seen)) ≡ true → (seen ≡ true → more ≡ true) → (selected || (follows || more)) ≡ true
  shown_stays true follows seen more h g = refl
  shown_stays false true seen more h g = refl
  shown_stays false false seen more h g = g h

  newly_shown : (selected follows seen more : Bool) → (selected || (follows || seen)) ≡ false → (selected || (follows || more)) ≡ true
      → (selected ≡ false) × (follows ≡ false) × (seen ≡ false) × (more ≡ true)
  newly_shown true follows seen more h g = absurd (grind arith)
  newly_shown false true seen more h g = absurd (grind arith)
  newly_shown false false seen more h g = (refl, refl, h, g)

  first_stays : (left : ℕ) (shown : Shown) (row : ToldRow) (rows more : List ToldRow) → ((next : ℕ) (so_far : Shown) → Stays next so_far rows more)
      → (old new : Bool) → is_shown before left row rows ≡ old → is_shown before left row (rows ++ more) ≡ new → Stays left shown (row ∷ rows) more
  first_stays left shown row rows more rest true true p q =
      let next = rest (left_after after left row) showing.Neighbour in
      let mark = separator coloured (shown_before shown row) in
      let text = text_from coloured before after (left_after after left row) showing.Neighbour rows in (
        next.0,
        ap (λ is. text_by is left shown row (rows ++ more)) q
            ∙ (ap (λ (t : List ℕ). mark ++ (row.text ++ t)) next.1
            ∙ (ap (λ (t : List ℕ). mark ++ t) (sym (append_assoc row.text text next.0))
            ∙ (sym (append_assoc mark (row.text ++ text) next.0)
            ∙ ap (λ is. text_by is left shown row rows ++ next.0) (sym p)))),
      )
  first_stays left shown row rows more rest false false p q =
      let next = rest (left_after after left row) (parted shown) in (
        next.0,
        ap (λ is. text_by is left shown row (rows ++ more)) q ∙ (next.1 ∙ ap (λ is. text_by is left shown row rows ++ next.0) (sym p)),
      )
  first_stays left shown row rows more rest false true p q =
      let parts = newly_shown row.selected (nat_lt 0 (to_follow left row)) (selected_soon before rows) (selected_soon before (rows ++ more)) p q in
      let none : left_after after left row ≡ 0 =
      ap (λ b. if b then after else to_follow left row - 1) parts.0 ∙ (let low = ltb-false 0 (to_follow left row) parts.1 in omega (arith, low)) in
      let empty : text_from coloured before after left shown (row ∷ rows) ≡ [] =
      ap (λ is. text_by is left shown row rows) p
      ∙ (ap (λ n. text_from coloured before after n (parted shown) rows) none ∙ plain_text (parted shown) rows (all_plain before rows more parts.2 parts.3)) in
      (text_from coloured before after left shown (row ∷ (rows ++ more)), ap (λ (t : List ℕ). t ++ text_from coloured before after left shown (row ∷ (rows ++ more))) (sym empty))
  first_stays left shown row rows more rest true false p q =
      absurd (true≢false (sym (shown_stays row.selected (nat_lt 0 (to_follow left row)) (selected_soon before rows) (selected_soon before (rows ++ more)) p (soon_stays before rows more)) ∙ q))
    where
      true≢false : true ≡ false → ⊥
      true≢false e = cc

  stays : (left : ℕ) (shown : Shown) (rows more : List ToldRow) → Stays left shown rows more
  stays left shown [] more = (text_from coloured before after left shown more, refl)
  stays left shown (row ∷ rows) more =
      first_stays left shown row rows more (λ next so_far. stays next so_far rows more) (is_shown before left row rows) (is_shown before left row (rows ++ more)) refl refl

  pub text_stays : (rows more : List ToldRow) → Begins (context_text coloured before after rows) (context_text coloured before after (rows ++ more))
  text_stays rows more =
      let rest = stays 0 showing.Nothing rows more in begins_with (context_text coloured before after rows) rest.0 (context_text coloured before after (rows ++ more)) rest.1
