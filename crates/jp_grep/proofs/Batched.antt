-- Those that were read, answered one after another.
use Rattle.std.proofs.Common.{◌≡◌, ◌∙◌, ◌<◌, ◌+◌, ◌-◌, ℕ, List, [], ◌∷◌, ◌++◌, length, sym, ap, ap₂, append_assoc, append-nil, arith, inl, inr, Some}
use Rattle.std.specs.Prelude.{cond, ◌⊎◌}
use Rattle.jp_grep.specs.Items.{Item, is_unjudged, unjudged_count}
use Rattle.jp_grep.specs.Rows.{item_message, item_events, messages_from, events_from, refused_count, selected_count, selected_in}
use Rattle.jp_grep.specs.Outcomes.{CameOfEach}
use Rattle.jp_grep.specs.Searching.{GoesOnBy, answered_after}
use Rattle.jp_grep.specs.Watching.{IsEnough, IsShort, cut_to, up_to}
use Rattle.jp_form.specs.declared.form.Form.{Form}
use Rattle.jp_grep.specs.declared.progress.Progress.{Progress}
use Rattle.jp_grep.specs.declared.question.Question.{Question}
use Rattle.jp_grep.proofs.Counted.{messages-append, messages_one, next_up_to, none_up_to, events-append, events_one, up_to-append}

none_left : (most before count : ℕ) → before + count ≡ most → (most - before) - count ≡ 0
none_left most before count e = omega (arith, e)

module _ (question : Question) (form : Form) (before : Progress) (done : List Item) where
  -- after those that are answered as many are as are left
  behind : (rest : List Item) → answered_after question form before (done ++ rest)
      ≡ answered_after question form before done ++ up_to question ((form.most - before.counts.selected) - selected_count question (answered_after question form before done))
      ((form.trailing - before.trailed) - unjudged_count (answered_after question form before done)) rest
  behind rest = up_to-append question (form.most - before.counts.selected) (form.trailing - before.trailed) done rest

  -- no more are wanted
  pub enough : (rest : List Item) → IsEnough form (before.counts.selected + selected_count question (answered_after question form before done)) (before.trailed + unjudged_count (answered_after question form before done))
      → answered_after question form before (done ++ rest) ≡ answered_after question form before done
  enough rest e =
      behind rest
      ∙ ap₂ (λ (m n : ℕ). answered_after question form before done ++ up_to question m n rest)
      (none_left form.most before.counts.selected (selected_count question (answered_after question form before done)) e.0)
      (none_left form.trailing before.trailed (unjudged_count (answered_after question form before done)) e.1)
      ∙ append-nil (answered_after question form before done)

  module _ (now : Progress) (by : GoesOnBy question form before now (answered_after question form before done)) (short : IsShort form now.counts.selected now.trailed) (item : Item) where
    left : (most before count now : ℕ) → now ≡ before + count → (most - before) - count ≡ most - now
    left most before count now e = omega (arith, e)

    wants : (selected most trailed trailing : ℕ) → (selected < most) ⊎ (trailed < trailing) → (0 < most - selected) ⊎ (0 < trailing - trailed)
    wants selected most trailed trailing (inl l) = inl (omega (arith, l))
    wants selected most trailed trailing (inr l) = inr (omega (arith, l))

    abbrev others : List Item → List Item
    others rest = up_to question ((form.most - now.counts.selected) - selected_in question (cut_to (form.most - now.counts.selected) item)) ((form.trailing - now.trailed) - cond (is_unjudged (Some (form.most - now.counts.selected))) 1 0) rest

    next : (rest : List Item) → answered_after question form before (done ++ item ∷ rest) ≡ answered_after question form before done ++ cut_to (form.most - now.counts.selected) item ∷ others rest
    next rest =
        behind (item ∷ rest)
        ∙ ap₂ (λ (m n : ℕ). answered_after question form before done ++ up_to question m n (item ∷ rest)) (left form.most before.counts.selected _ now.counts.selected by.selected) (left form.trailing before.trailed _ now.trailed by.trailed)
        ∙ ap (λ l. answered_after question form before done ++ l)
        (next_up_to question (form.most - now.counts.selected) (form.trailing - now.trailed) item rest (wants now.counts.selected form.most now.trailed form.trailing short))

    -- the next one is answered too, as far as its nodes are wanted
    pub one_more : (rest : List Item)
        → (others : List Item) × (answered_after question form before (done ++ item ∷ rest) ≡ (answered_after question form before done ++ cut_to (form.most - now.counts.selected) item ∷ []) ++ others)
    one_more rest = (others rest, next rest ∙ sym (append_assoc (answered_after question form before done) (cut_to (form.most - now.counts.selected) item ∷ []) _))

    pub with_next : answered_after question form before (done ++ item ∷ []) ≡ answered_after question form before done ++ cut_to (form.most - now.counts.selected) item ∷ []
    with_next = next [] ∙ ap (λ l. answered_after question form before done ++ cut_to (form.most - now.counts.selected) item ∷ l) (none_up_to question _ _)

module _ (question : Question) (form : Form) (done : List Item) (item : Item) where
  pub rows_more : (n : ℕ) → events_from question form n (done ++ item ∷ []) ≡ events_from question form n done ++ item_events question form (n + length done) item
  rows_more n = events-append question form n done (item ∷ []) ∙ ap (λ l. events_from question form n done ++ l) (events_one question form (n + length done) item)

  pub messages_more : (before n : ℕ) → messages_from form before n (done ++ item ∷ []) ≡ messages_from form before n done ++ item_message form (before + refused_count done) (n + length done) item
  messages_more before n =
      messages-append question form before n done (item ∷ []) ∙ ap (λ l. messages_from form before n done ++ l) (messages_one question form (before + refused_count done) (n + length done) item)

  -- what is written of all: of those before the item, of it, and of those after it
  pub rows_around : (n : ℕ) (all rest : List Item) → all ≡ (done ++ item ∷ []) ++ rest
      → events_from question form n all ≡ (events_from question form n done ++ item_events question form (n + length done) item) ++ events_from question form (n + length (done ++ item ∷ [])) rest
  rows_around n all rest e =
      ap (events_from question form n) e
      ∙ events-append question form n (done ++ item ∷ []) rest
      ∙ ap (λ l. l ++ events_from question form (n + length (done ++ item ∷ [])) rest) (rows_more n)

  pub messages_around : (before n : ℕ) (all rest : List Item) → all ≡ (done ++ item ∷ []) ++ rest
      → messages_from form before n all
      ≡ (messages_from form before n done ++ item_message form (before + refused_count done) (n + length done) item)
      ++ messages_from form (before + refused_count (done ++ item ∷ [])) (n + length (done ++ item ∷ [])) rest
  messages_around before n all rest e =
      ap (messages_from form before n) e
      ∙ messages-append question form before n (done ++ item ∷ []) rest
      ∙ ap (λ l. l ++ messages_from form (before + refused_count (done ++ item ∷ [])) (n + length (done ++ item ∷ [])) rest) (messages_more before n)

-- These are done: what came of each of the first items, answered one after another.
pub record AreDone (question : Question) (form : Form) (before after : Progress) (items done : List Item) : Type 0 where
  pub each : CameOfEach items done
  pub by : GoesOnBy question form before after (answered_after question form before done)
