-- Rows in colours are shown as those without are.
use Rattle.std.proofs.Common.{◌≡◌, ◌∙◌, ℕ, ◌-◌, List, [], ◌∷◌, ◌++◌, ap, ap₂, refl, sym, subst, subst₂, codes, Bool, true, false, if◌then◌else◌}
use Rattle.std.specs.Prelude.{◌&&◌, ◌||◌, not, nat_lt}
use Rattle.std.proofs.lemmas.Bool.{false≢true, true≢false}
use Rattle.jp_model.specs.Rows.{line_feed}
use Rattle.jp_paint.specs.Colours.{painted}
use Rattle.jp_paint.specs.Laws.{Paints}
use Rattle.jp_paint.specs.declared.part.Part.TheVariants as parts
use Rattle.jp_paint.proofs.Sequences.{joined_paints, painted_paints, plain_stays}
use Rattle.jp_context.specs.Colours.{AllInColours, ColoursComeOffRows, ColoursComeOffTold, InColours, TellInColours, is_gap, is_selected}
use Rattle.jp_context.specs.Groups.{left_after, parted, selected_soon, separator, shown_before, to_follow}
use Rattle.jp_context.specs.Steps.{text_from}
use Rattle.jp_context.specs.Told.{ToldRow, rows_from, told_rows}
use Rattle.jp_context.specs.declared.shown.Shown.{Shown}
use Rattle.jp_context.specs.declared.shown.Shown.TheVariants as showing
use Rattle.jp_sink.specs.Events.{Event, event_text, gap_event, node_event, row_event}

-- what parts groups of rows
separator_paints : (is_coloured : Bool) (shown : Shown) → Paints (separator false shown) (separator is_coloured shown)
separator_paints is_coloured showing.Nothing = plain_stays []
separator_paints is_coloured showing.Neighbour = plain_stays []
separator_paints is_coloured showing.Others =
    joined_paints (codes "--") (painted is_coloured parts.Sign (codes "--")) line_feed line_feed (painted_paints is_coloured parts.Sign (codes "--")) (plain_stays line_feed)

-- as far ahead, one is selected
same_soon : (count : ℕ) (plain coloured : List ToldRow) → AllInColours plain coloured → selected_soon count coloured ≡ selected_soon count plain
same_soon count [] [] same = refl
same_soon count [] (other ∷ coloured) same = absurd same
same_soon count (row ∷ plain) [] same = absurd same
same_soon count (row ∷ plain) (other ∷ coloured) same =
    let soon = selected_soon (count - 1) coloured in
    ap (λ first. nat_lt 0 count && (not first && (other.selected || soon))) same.0.first
    ∙ (ap (λ selected. nat_lt 0 count && (not row.first && (selected || soon))) same.0.selected
    ∙ ap (λ seen. nat_lt 0 count && (not row.first && (row.selected || seen))) (same_soon (count - 1) plain coloured same.1))

-- a row with another text
abbrev with_text : ToldRow → List ℕ → ToldRow
with_text row text = record { selected = row.selected; first = row.first; text = text }

as_told : (row other : ToldRow) → InColours row other → with_text row other.text ≡ other
as_told row other same = sym (ap₂ (λ selected first. record { selected = selected; first = first; text = other.text }) same.selected same.first)

module _ (is_coloured : Bool) (before after : ℕ) where
  abbrev Alike : (left : ℕ) → Shown → (plain coloured : List ToldRow) → Type 0
  Alike left shown plain coloured = Paints (text_from false before after left shown plain) (text_from is_coloured before after left shown coloured)

  -- the text of rows of which the first is shown, and where it is not
  abbrev text_by : (coloured : Bool) → (is : Bool) → ℕ → Shown → ToldRow → List ToldRow → List ℕ
  text_by coloured is left shown row more =
      if is then separator coloured (shown_before shown row) ++ (row.text ++ text_from coloured before after (left_after after left row) showing.Neighbour more)
      else text_from coloured before after (left_after after left row) (parted shown) more

  one_more : (left : ℕ) (shown : Shown) (row : ToldRow) (text : List ℕ) (plain coloured : List ToldRow) → Paints row.text text
      → ((next : ℕ) (so_far : Shown) → Alike next so_far plain coloured)
      → (is : Bool) → Paints (text_by false is left shown row plain) (text_by is_coloured is left shown (with_text row text) coloured)
  one_more left shown row text plain coloured same rest true =
      let next = left_after after left row in
      let mark = shown_before shown row in
      let more = text_from false before after next showing.Neighbour plain in
      let others = text_from is_coloured before after next showing.Neighbour coloured in
      joined_paints (separator false mark) (separator is_coloured mark) (row.text ++ more) (text ++ others) (separator_paints is_coloured mark)
      (joined_paints row.text text more others same (rest next showing.Neighbour))
  one_more left shown row text plain coloured same rest false = rest (left_after after left row) (parted shown)

  alike : (left : ℕ) (shown : Shown) (plain coloured : List ToldRow) → AllInColours plain coloured → Alike left shown plain coloured
  alike left shown [] [] same = plain_stays []
  alike left shown [] (other ∷ coloured) same = absurd same
  alike left shown (row ∷ plain) [] same = absurd same
  alike left shown (row ∷ plain) (other ∷ coloured) same =
      let is : Bool → Bool = λ soon. row.selected || (nat_lt 0 (to_follow left row) || soon) in
      subst (λ (told : ToldRow). Paints (text_from false before after left shown (row ∷ plain)) (text_from is_coloured before after left shown (told ∷ coloured))) (as_told row other same.0)
      (subst (λ soon. Paints (text_by false (is (selected_soon before plain)) left shown row plain) (text_by is_coloured (is soon) left shown (with_text row other.text) coloured))
      (sym (same_soon before plain coloured same.1))
      (one_more left shown row other.text plain coloured same.0.text (λ next so_far. alike next so_far plain coloured same.1) (is (selected_soon before plain))))

pub rows_alike : ColoursComeOffRows
rows_alike is_coloured before after plain coloured same = alike is_coloured before after 0 showing.Nothing plain coloured same

-- what an event tells that is no gap
abbrev told_row : Bool → Event → ToldRow
told_row first event = record { selected = is_selected event; first = first; text = event_text event }

told_next : (first : Bool) (event : Event) (more : List Event) → is_gap event ≡ false → rows_from first (event ∷ more) ≡ told_row first event ∷ rows_from false more
told_next first gap_event more h = absurd (true≢false h)
told_next first (row_event selected text) more h = refl
told_next first (node_event n line node) more h = refl

after_gap : (first : Bool) (event : Event) (more : List Event) → is_gap event ≡ true → rows_from first (event ∷ more) ≡ rows_from true more
after_gap first gap_event more h = refl
after_gap first (row_event selected text) more h = absurd (false≢true h)
after_gap first (node_event n line node) more h = absurd (false≢true h)

-- the rows of events in colours
rows_told : (first : Bool) (plain coloured : List Event) → TellInColours plain coloured → AllInColours (rows_from first plain) (rows_from first coloured)
rows_told first [] [] same = same
rows_told first [] (other ∷ coloured) same = absurd same
rows_told first (event ∷ plain) [] same = absurd same
rows_told first (event ∷ plain) (other ∷ coloured) same =
    elim (is_gap event) as (λ gap. is_gap event ≡ gap → AllInColours (rows_from first (event ∷ plain)) (rows_from first (other ∷ coloured))) [
      | true ↦ λ gap. subst₂ AllInColours (sym (after_gap first event plain gap)) (sym (after_gap first other coloured (same.0.gap ∙ gap))) (rows_told true plain coloured same.1)
      | false ↦ λ row. subst₂ AllInColours (sym (told_next first event plain row)) (sym (told_next first other coloured (same.0.gap ∙ row)))
          (record { selected = same.0.selected; first = refl; text = same.0.text }, rows_told false plain coloured same.1)
    ] refl

pub told_alike : ColoursComeOffTold
told_alike is_coloured before after plain coloured same = rows_alike is_coloured before after (told_rows plain) (told_rows coloured) (rows_told true plain coloured same)

-- events, and more after them
pub tell_both : (plain coloured more others : List Event) → TellInColours plain coloured → TellInColours more others → TellInColours (plain ++ more) (coloured ++ others)
tell_both [] [] more others same rest = rest
tell_both [] (other ∷ coloured) more others same rest = absurd same
tell_both (event ∷ plain) [] more others same rest = absurd same
tell_both (event ∷ plain) (other ∷ coloured) more others same rest = (same.0, tell_both plain coloured more others same.1 rest)
