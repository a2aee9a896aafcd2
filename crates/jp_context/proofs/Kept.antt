-- What is shown of rows that are kept.
use Rattle.std.proofs.Common.{◌≡◌, ◌∙◌, ℕ, ◌+◌, ◌-◌, ◌≤◌, ◌<◌, List, [], ◌∷◌, ◌++◌, length, ap, refl, sym, arith, append_assoc, append-nil, length-append, subst, Bool, Global, Vec, map, true, false, if◌then◌else◌}
use Rattle.std.specs.Prelude.{◌&&◌, ◌||◌, not, nat_lt, zero, suc}
use Rattle.std.proofs.lemmas.Bool.{le-ltb, lt-ltb}
use Rattle.std.proofs.lemmas.List.{map-append}
use Rattle.jp_context.specs.Groups.{parted, selected_soon, separator}
use Rattle.jp_context.specs.Steps.{kept_rows, kept_texts, show_front, text_from, will_show}
use Rattle.jp_context.specs.declared.state.Groups.{Groups}
use Rattle.jp_context.specs.Told.{ToldRow, next_row, rows_from}
use Rattle.jp_context.specs.declared.shown.Shown.{Shown}
use Rattle.jp_context.specs.declared.shown.Shown.TheVariants as showing
use Rattle.jp_sink.specs.Events.{Event, event_text, gap_event, node_event, row_event}

abbrev pub row_of : Bool → Bool → List ℕ → ToldRow
row_of selected first text = record { selected = selected; first = first; text = text }

-- the texts of rows
abbrev pub texts_of : List (Vec ℕ Global) → List (List ℕ)
texts_of rows = map (λ row. row.items) rows

pub parted_again : (shown : Shown) → parted (parted shown) ≡ parted shown
parted_again showing.Nothing = refl
parted_again showing.Neighbour = refl
parted_again showing.Others = refl

pub and_false : (b : Bool) → (b && false) ≡ false
and_false true = refl
and_false false = refl

-- a row of the next stream ends what is looked at
pub none_soon_first : (count : ℕ) (texts : List (List ℕ)) (selected : Bool) (text : List ℕ) (more : List ToldRow)
    → selected_soon count (kept_rows texts ++ row_of selected true text ∷ more) ≡ false
none_soon_first count [] selected text more = and_false (nat_lt 0 count)
none_soon_first count (kept ∷ texts) selected text more =
    ap (λ b. nat_lt 0 count && b) (none_soon_first (count - 1) texts selected text more) ∙ and_false (nat_lt 0 count)

-- none is selected among rows that are kept, and what follows enough of them is not looked at
pub none_soon_kept : (count : ℕ) (texts : List (List ℕ)) (more : List ToldRow) → count ≤ length texts → selected_soon count (kept_rows texts ++ more) ≡ false
none_soon_kept count [] [] h = refl
none_soon_kept count [] (row ∷ more) h = ap (λ b. b && (not row.first && (row.selected || selected_soon (count - 1) more))) (le-ltb 0 count h)
none_soon_kept count (kept ∷ texts) more h =
    elim (nat_lt 0 count) as (λ b. nat_lt 0 count ≡ b → (b && selected_soon (count - 1) (kept_rows texts ++ more)) ≡ false) [
      | true ↦ λ q. none_soon_kept (count - 1) texts more (omega (arith, h))
      | false ↦ λ q. refl
    ] refl

none_soon_end : (count : ℕ) (texts : List (List ℕ)) → selected_soon count (kept_rows texts) ≡ false
none_soon_end count [] = refl
none_soon_end count (kept ∷ texts) = ap (λ b. nat_lt 0 count && b) (none_soon_end (count - 1) texts) ∙ and_false (nat_lt 0 count)

-- a row that is selected is seen from those that are kept before it
pub one_soon : (count : ℕ) (texts : List (List ℕ)) (text : List ℕ) (more : List ToldRow) → length texts < count → selected_soon count (kept_rows texts ++ next_row true text ∷ more) ≡ true
one_soon count [] text more h = ap (λ b. b && true) (lt-ltb 0 count h)
one_soon count (kept ∷ texts) text more h =
    ap (λ b. b && selected_soon (count - 1) (kept_rows texts ++ next_row true text ∷ more)) (lt-ltb 0 count (omega (arith, h)))
    ∙ one_soon (count - 1) texts text more (omega (arith, h))

module _ (coloured : Bool) (before after : ℕ) where
  -- where a stream begins, what is kept is not shown
  begin_empty : (left : ℕ) (shown : Shown) (selected : Bool) (text : List ℕ) (more : List ToldRow)
      → text_from coloured before after left shown (row_of selected true text ∷ more) ≡ text_from coloured before after 0 (parted shown) (next_row selected text ∷ more)
  begin_empty left shown true text more = refl
  begin_empty left shown false text more =
      elim (selected_soon before more) as (λ b. (if b then separator coloured (parted shown) ++ (text ++ text_from coloured before after 0 showing.Neighbour more) else text_from coloured before after 0 (parted shown) more)
      ≡ (if b then separator coloured (parted shown) ++ (text ++ text_from coloured before after 0 showing.Neighbour more) else text_from coloured before after 0 (parted (parted shown)) more)) [
        | true ↦ refl
        | false ↦ ap (λ s. text_from coloured before after 0 s more) (sym (parted_again shown))
      ]

  begin_kept : (shown : Shown) (texts : List (List ℕ)) (selected : Bool) (text : List ℕ) (more : List ToldRow)
      → text_from coloured before after 0 shown (kept_rows texts ++ row_of selected true text ∷ more) ≡ text_from coloured before after 0 (parted shown) (next_row selected text ∷ more)
  begin_kept shown [] selected text more = begin_empty 0 shown selected text more
  begin_kept shown (kept ∷ texts) selected text more =
      ap (λ b. if b then separator coloured shown ++ (kept ++ text_from coloured before after 0 showing.Neighbour (kept_rows texts ++ row_of selected true text ∷ more)) else text_from coloured before after 0 (parted shown) (kept_rows texts ++ row_of selected true text ∷ more))
      (none_soon_first before texts selected text more)
      ∙ (begin_kept (parted shown) texts selected text more ∙ ap (λ s. text_from coloured before after 0 s (next_row selected text ∷ more)) (parted_again shown))

  -- a row that is not shown goes, once enough of its stream follow it
  first_goes : (shown : Shown) (kept : List ℕ) (texts : List (List ℕ)) (more : List ToldRow) → before ≤ length texts
      → text_from coloured before after 0 shown (next_row false kept ∷ (kept_rows texts ++ more)) ≡ text_from coloured before after 0 (parted shown) (kept_rows texts ++ more)
  first_goes shown kept texts more h =
      ap (λ b. if b then separator coloured shown ++ (kept ++ text_from coloured before after 0 showing.Neighbour (kept_rows texts ++ more)) else text_from coloured before after 0 (parted shown) (kept_rows texts ++ more))
      (none_soon_kept before texts more h)

  -- nothing is shown of rows that are kept alone
  kept_alone : (shown : Shown) (texts : List (List ℕ)) → text_from coloured before after 0 shown (kept_rows texts) ≡ []
  kept_alone shown [] = refl
  kept_alone shown (kept ∷ texts) =
      ap (λ b. if b then separator coloured shown ++ (kept ++ text_from coloured before after 0 showing.Neighbour (kept_rows texts)) else text_from coloured before after 0 (parted shown) (kept_rows texts))
      (none_soon_end before texts)
      ∙ kept_alone (parted shown) texts

  -- a row that is selected shows those that are kept before it
  shown_with : (shown : Shown) (texts : List (List ℕ)) (text : List ℕ) (more : List ToldRow) → length texts ≤ before
      → text_from coloured before after 0 shown (kept_rows texts ++ next_row true text ∷ more) ≡ show_front coloured shown texts ++ (text ++ text_from coloured before after after showing.Neighbour more)
  shown_with shown [] text more h = refl
  shown_with shown (kept ∷ texts) text more h =
      let front = show_front coloured showing.Neighbour texts in
      let rest = text ++ text_from coloured before after after showing.Neighbour more in
      ap (λ b. if b then separator coloured shown ++ (kept ++ text_from coloured before after 0 showing.Neighbour (kept_rows texts ++ next_row true text ∷ more)) else text_from coloured before after 0 (parted shown) (kept_rows texts ++ next_row true text ∷ more))
      (one_soon before texts text more (omega (arith, h)))
      ∙ (ap (λ (t : List ℕ). separator coloured shown ++ (kept ++ t)) (shown_with showing.Neighbour texts text more (omega (arith, h)))
      ∙ (ap (λ (t : List ℕ). separator coloured shown ++ t) (sym (append_assoc kept front rest)) ∙ sym (append_assoc (separator coloured shown) (kept ++ front) rest)))

  -- the same, where no row is kept while some are still to follow
  begins : (left : ℕ) (shown : Shown) (texts : List (List ℕ)) (selected : Bool) (text : List ℕ) (more : List ToldRow) → (0 < left → texts ≡ [])
      → text_from coloured before after left shown (kept_rows texts ++ row_of selected true text ∷ more) ≡ text_from coloured before after 0 (parted shown) (next_row selected text ∷ more)
  begins zero shown texts selected text more none = begin_kept shown texts selected text more
  begins (suc left) shown [] selected text more none = begin_empty (suc left) shown selected text more
  begins (suc left) shown (kept ∷ texts) selected text more none = absurd (cons_not_nil (none (omega arith)))
    where
      cons_not_nil : kept ∷ texts ≡ [] → ⊥
      cons_not_nil q = cc

  pub selects : (left : ℕ) (shown : Shown) (texts : List (List ℕ)) (text : List ℕ) (more : List ToldRow) → (0 < left → texts ≡ []) → length texts ≤ before
      → text_from coloured before after left shown (kept_rows texts ++ next_row true text ∷ more) ≡ show_front coloured shown texts ++ (text ++ text_from coloured before after after showing.Neighbour more)
  selects zero shown texts text more none h = shown_with shown texts text more h
  selects (suc left) shown [] text more none h = refl
  selects (suc left) shown (kept ∷ texts) text more none h = absurd (cons_not_nil (none (omega arith)))
    where
      cons_not_nil : kept ∷ texts ≡ [] → ⊥
      cons_not_nil q = cc

  -- a row that is kept last makes the first one go
  pub first_gone : (shown : Shown) (kept : List ℕ) (texts : List (List ℕ)) (text : List ℕ) (more : List ToldRow) → before ≤ length texts + 1
      → text_from coloured before after 0 shown (next_row false kept ∷ (kept_rows texts ++ next_row false text ∷ more)) ≡ text_from coloured before after 0 (parted shown) (kept_rows texts ++ next_row false text ∷ more)
  first_gone shown kept texts text more h =
      let all : kept_rows (texts ++ text ∷ []) ++ more ≡ kept_rows texts ++ next_row false text ∷ more =
      ap (λ (rows : List ToldRow). rows ++ more) (map-append (next_row false) texts (text ∷ [])) ∙ append_assoc (kept_rows texts) (next_row false text ∷ []) more in
      let long = length-append texts (text ∷ []) in
      subst (λ (rows : List ToldRow). text_from coloured before after 0 shown (next_row false kept ∷ rows) ≡ text_from coloured before after 0 (parted shown) rows) all
      (first_goes shown kept (texts ++ text ∷ []) more (omega (arith, h, long)))

  -- where none is kept, a row that is not shown goes
  pub not_kept : (left : ℕ) (shown next : Shown) (texts : List (List ℕ)) (text : List ℕ) (more : List ToldRow) → before ≡ 0 → left ≡ 0 → length texts ≤ before → next ≡ parted shown
      → text_from coloured before after left shown (kept_rows texts ++ next_row false text ∷ more) ≡ text_from coloured before after left next (kept_rows texts ++ more)
  not_kept zero shown next [] text more none off few is = first_goes shown text [] more (omega (arith, none)) ∙ ap (λ s. text_from coloured before after 0 s more) (sym is)
  not_kept zero shown next (kept ∷ texts) text more none off few is = absurd (omega (arith, none, few))
  not_kept (suc left) shown next texts text more none off few is = absurd (omega (arith, off))

  nothing_from : (left : ℕ) (shown : Shown) (texts : List (List ℕ)) → (0 < left → texts ≡ []) → text_from coloured before after left shown (kept_rows texts ++ []) ≡ []
  nothing_from zero shown texts none = ap (λ (rows : List ToldRow). text_from coloured before after 0 shown rows) (append-nil (kept_rows texts)) ∙ kept_alone shown texts
  nothing_from (suc left) shown texts none = ap (λ (t : List (List ℕ)). text_from coloured before after (suc left) shown (kept_rows t ++ [])) (none (omega arith))

  -- no row that came before a gap is context of one that comes after it
  pub parts : (left : ℕ) (shown : Shown) (texts : List (List ℕ)) (events : List Event) → (0 < left → texts ≡ [])
      → text_from coloured before after left shown (kept_rows texts ++ rows_from true events) ≡ text_from coloured before after 0 (parted shown) (rows_from false events)
  parts left shown texts [] none = nothing_from left shown texts none
  parts left shown texts (gap_event ∷ events) none =
      parts left shown texts events none
      ∙ (ap (λ s. text_from coloured before after 0 s (rows_from false events)) (sym (parted_again shown)) ∙ sym (parts 0 (parted shown) [] events (λ some. refl)))
  parts left shown texts (row_event selected text ∷ events) none = begins left shown texts selected text (rows_from false events) none
  parts left shown texts (node_event n line node ∷ events) none = begins left shown texts true (event_text (node_event n line node)) (rows_from false events) none

-- no row will be shown that was not, unless more come
pub nothing_waits : (groups : Groups) → will_show groups [] ≡ []
nothing_waits groups = nothing_from groups.layout.coloured groups.layout.before groups.layout.after groups.left groups.shown (kept_texts groups) (λ some. ap texts_of (groups.none some))
