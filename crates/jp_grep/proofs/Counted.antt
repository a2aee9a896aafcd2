-- Lines, texts and elements that are answered one after another.
use Rattle.std.proofs.Common.{◌≡◌, ◌∙◌, ◌<◌, ◌≤◌, ℕ, ◌+◌, ◌-◌, List, [], ◌∷◌, ◌++◌, length, refl, sym, ap, ap₂, append_assoc, append-nil, arith, inl, inr, Bool, Some}
use Rattle.std.specs.Prelude.{zero, suc, count_by, cond, ◌⊎◌}
use Rattle.std.proofs.lemmas.List.Sums.{sum_by-cons}
use Rattle.jp_grep.specs.Items.{Item, is_unjudged, unjudged_count}
use Rattle.jp_grep.specs.Rows.{events_from, item_events, item_message, messages_from, refused_count, refused_item, selected_count, selected_in}
use Rattle.jp_grep.specs.Watching.{cut_to, up_to}
use Rattle.jp_form.specs.declared.form.Form.{Form}
use Rattle.jp_grep.specs.declared.question.Question.{Question}

module _ {A : Type 0} (test : A → Bool) where
  pub count-cons : (x : A) (xs : List A) → count_by test (x ∷ xs) ≡ cond (test x) 1 0 + count_by test xs
  count-cons x xs = sum_by-cons (λ y. cond (test y) 1 0) x xs

module _ (question : Question) where
  less : (most one rest all : ℕ) → all ≡ one + rest → (most - one) - rest ≡ most - all
  less most one rest all e = omega (arith, e)

  none_less : (n : ℕ) → zero ≡ zero - n
  none_less n = omega arith

  all_left : (n : ℕ) → n ≡ n - 0
  all_left n = omega arith

  one_less : (n : ℕ) → n ≡ suc n - 1
  one_less n = omega arith

  -- the item that comes next is among them, where some are wanted, or passed after those that are
  pub next_up_to : (most trailing : ℕ) (item : Item) (rest : List Item) → (0 < most) ⊎ (0 < trailing)
      → up_to question most trailing (item ∷ rest) ≡ cut_to most item ∷ up_to question (most - selected_in question (cut_to most item)) (trailing - cond (is_unjudged (Some most)) 1 0) rest
  next_up_to zero zero item rest (inl l) = absurd (omega (arith, l))
  next_up_to zero zero item rest (inr l) = absurd (omega (arith, l))
  next_up_to zero (suc trailing) item rest l = ap₂ (λ (j k : ℕ). cut_to 0 item ∷ up_to question j k rest) (none_less (selected_in question (cut_to 0 item))) (one_less trailing)
  next_up_to (suc most) trailing item rest l = ap (λ (k : ℕ). cut_to (suc most) item ∷ up_to question (suc most - selected_in question (cut_to (suc most) item)) k rest) (all_left trailing)

  pub none_up_to : (most trailing : ℕ) → up_to question most trailing [] ≡ []
  none_up_to zero zero = refl
  none_up_to zero (suc trailing) = refl
  none_up_to (suc most) trailing = refl

  -- no more are taken than there are
  pub few_up_to : (most trailing : ℕ) (items : List Item) → length (up_to question most trailing items) ≤ length items
  few_up_to zero zero items = omega arith
  few_up_to zero (suc trailing) [] = omega arith
  few_up_to zero (suc trailing) (item ∷ rest) = let l = few_up_to zero trailing rest in omega (arith, l)
  few_up_to (suc most) trailing [] = omega arith
  few_up_to (suc most) trailing (item ∷ rest) = let l = few_up_to (suc most - selected_in question (cut_to (suc most) item)) trailing rest in omega (arith, l)

  -- of more items, those after the first are taken as far as they are wanted then
  pub up_to-append : (most trailing : ℕ) (xs ys : List Item)
      → up_to question most trailing (xs ++ ys)
      ≡ up_to question most trailing xs ++ up_to question (most - selected_count question (up_to question most trailing xs)) (trailing - unjudged_count (up_to question most trailing xs)) ys
  up_to-append zero zero xs ys = ap₂ (λ (j k : ℕ). up_to question j k ys) (none_less (selected_count question [])) (none_less (unjudged_count []))
  up_to-append zero (suc trailing) [] ys = ap₂ (λ (j k : ℕ). up_to question j k ys) (none_less (selected_count question [])) (all_left (suc trailing))
  up_to-append zero (suc trailing) (x ∷ xs) ys =
      let one = cut_to 0 x in
      let taken = up_to question zero trailing xs in
      ap (λ l. one ∷ l) (up_to-append zero trailing xs ys)
      ∙ ap₂ (λ (j k : ℕ). one ∷ (taken ++ up_to question j k ys)) (both_none (selected_count question taken) (selected_count question (one ∷ taken)))
      (both_less trailing (unjudged_count taken) (unjudged_count (one ∷ taken)) (count-cons (λ (item : Item). is_unjudged item.most) one taken))
    where
      both_none : (m n : ℕ) → zero - m ≡ zero - n
      both_none m n = omega arith

      both_less : (trailing rest all : ℕ) → all ≡ 1 + rest → trailing - rest ≡ suc trailing - all
      both_less trailing rest all e = omega (arith, e)
  up_to-append (suc most) trailing [] ys = ap₂ (λ (j k : ℕ). up_to question j k ys) (all_left (suc most)) (all_left trailing)
  up_to-append (suc most) trailing (x ∷ xs) ys =
      let one = cut_to (suc most) x in
      let k : ℕ = suc most - selected_in question one in
      let taken = up_to question k trailing xs in
      ap (λ l. one ∷ l) (up_to-append k trailing xs ys)
      ∙ ap₂ (λ (m n : ℕ). one ∷ (taken ++ up_to question m n ys)) (less (suc most) (selected_in question one) (selected_count question taken) (selected_count question (one ∷ taken)) (sum_by-cons (selected_in question) one taken))
      (as_many trailing (unjudged_count taken) (unjudged_count (one ∷ taken)) (count-cons (λ (item : Item). is_unjudged item.most) one taken))
    where
      as_many : (trailing rest all : ℕ) → all ≡ 0 + rest → trailing - rest ≡ trailing - all
      as_many trailing rest all e = omega (arith, e)

module _ (question : Question) (form : Form) where
  pub events-append : (n : ℕ) (xs ys : List Item) → events_from question form n (xs ++ ys) ≡ events_from question form n xs ++ events_from question form (n + length xs) ys
  events-append n [] ys = ap (λ k. events_from question form k ys) (omega arith)
  events-append n (x ∷ xs) ys =
      ap (λ l. item_events question form n x ++ l) (events-append (n + 1) xs ys ∙ ap (λ k. events_from question form (n + 1) xs ++ events_from question form k ys) (omega arith))
      ∙ sym (append_assoc (item_events question form n x) (events_from question form (n + 1) xs) (events_from question form (n + length (x ∷ xs)) ys))

  counted_so : (before one rest all : ℕ) → all ≡ one + rest → (before + one) + rest ≡ before + all
  counted_so before one rest all e = omega (arith, e)

  pub messages-append : (before n : ℕ) (xs ys : List Item)
      → messages_from form before n (xs ++ ys) ≡ messages_from form before n xs ++ messages_from form (before + refused_count xs) (n + length xs) ys
  messages-append before n [] ys = ap₂ (λ j k. messages_from form j k ys) (omega arith) (omega arith)
  messages-append before n (x ∷ xs) ys =
      let one : ℕ = cond (refused_item x) 1 0 in
      let counted : (before + one) + refused_count xs ≡ before + refused_count (x ∷ xs) = counted_so before one (refused_count xs) (refused_count (x ∷ xs)) (count-cons refused_item x xs) in
      ap (λ l. item_message form before n x ++ l)
      (messages-append (before + one) (n + 1) xs ys ∙ ap₂ (λ j k. messages_from form (before + one) (n + 1) xs ++ messages_from form j k ys) counted (omega arith))
      ∙ sym (append_assoc (item_message form before n x) (messages_from form (before + one) (n + 1) xs)
      (messages_from form (before + refused_count (x ∷ xs)) (n + length (x ∷ xs)) ys))

  -- one more line
  pub events_one : (n : ℕ) (line : Item) → events_from question form n (line ∷ []) ≡ item_events question form n line
  events_one n line = append-nil (item_events question form n line)

  pub messages_one : (before n : ℕ) (line : Item) → messages_from form before n (line ∷ []) ≡ item_message form before n line
  messages_one before n line = append-nil (item_message form before n line)
