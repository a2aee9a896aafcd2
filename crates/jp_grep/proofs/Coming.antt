-- What came of items that were answered one after another.
use Rattle.std.proofs.Common.{◌≡◌, ◌∙◌, ◌+◌, ◌-◌, ℕ, List, [], ◌∷◌, ◌++◌, ap, arith, length, refl, sym, inl, inr}
use Rattle.std.specs.Prelude.{zero, suc, cond}
use Rattle.jp_grep.specs.Items.{Item, is_given_up}
use Rattle.jp_grep.specs.Outcomes.{CameOf, CameOfEach, given_up_count}
use Rattle.jp_grep.specs.Rows.{selected_in}
use Rattle.jp_grep.specs.Watching.{cut_to, up_to}
use Rattle.jp_grep.specs.declared.question.Question.{Question}
use Rattle.jp_grep.proofs.Counted.{count-cons}

-- none was given up
pub came_same : (items : List Item) → CameOfEach items items
came_same [] = tt
came_same (item ∷ items) = (inl refl, came_same items)

pub came_next : (items outcomes more others : List Item) → CameOfEach items outcomes → CameOfEach more others → CameOfEach (items ++ more) (outcomes ++ others)
came_next [] [] more others h k = k
came_next [] (outcome ∷ outcomes) more others h k = absurd h
came_next (item ∷ items) [] more others h k = absurd h
came_next (item ∷ items) (outcome ∷ outcomes) more others h k = (h.0, came_next items outcomes more others h.1 k)

pub came_length : (items outcomes : List Item) → CameOfEach items outcomes → length items ≡ length outcomes
came_length [] [] h = refl
came_length [] (outcome ∷ outcomes) h = absurd h
came_length (item ∷ items) [] h = absurd h
came_length (item ∷ items) (outcome ∷ outcomes) h = ap (λ n. suc n) (came_length items outcomes h.1)

pub came_one : (item outcome : Item) → CameOf item outcome → CameOfEach (item ∷ []) (outcome ∷ [])
came_one item outcome h = (h, tt)

-- of none there is none
pub none_came : (outcomes : List Item) → CameOfEach [] outcomes → outcomes ≡ []
none_came [] h = refl
none_came (outcome ∷ outcomes) h = absurd h

second : (a b c : ℕ) → c ≡ a + b → c ≡ 0 → b ≡ 0
second a b c e f = omega (arith, e, f)

first : (a b c : ℕ) → c ≡ a + b → c ≡ 0 → a ≡ 0
first a b c e f = omega (arith, e, f)

kept : (item outcome : Item) → CameOf item outcome → ◌≡◌ {A = ℕ} (cond (is_given_up outcome) 1 0) 0 → outcome ≡ item
kept item outcome (inl e) none = e
kept item outcome (inr lost) none = absurd (one (ap (λ (x : Item). let n : ℕ = cond (is_given_up x) 1 0 in n) (sym lost.1) ∙ none))
  where
    one : ◌≡◌ {A = ℕ} 1 0 → ⊥
    one e = cc

-- where none of those that are answered was given up, they are the items
pub none_lost : (question : Question) (most trailing : ℕ) (items outcomes : List Item) → CameOfEach items outcomes → given_up_count (up_to question most trailing outcomes) ≡ 0
    → up_to question most trailing outcomes ≡ up_to question most trailing items
none_lost question zero zero items outcomes h none = refl
none_lost question zero (suc trailing) [] [] h none = refl
none_lost question zero (suc trailing) [] (outcome ∷ outcomes) h none = absurd h
none_lost question zero (suc trailing) (item ∷ items) [] h none = absurd h
none_lost question zero (suc trailing) (item ∷ items) (outcome ∷ outcomes) h none =
    let one = cut_to 0 outcome in
    let taken = up_to question zero trailing outcomes in
    let counted = count-cons is_given_up one taken in
    let rest = none_lost question zero trailing items outcomes h.1 (second (cond (is_given_up outcome) 1 0) (given_up_count taken) (given_up_count (one ∷ taken)) counted none) in
    let same = kept item outcome h.0 (first (cond (is_given_up outcome) 1 0) (given_up_count taken) (given_up_count (one ∷ taken)) counted none) in
    ap (λ ls. one ∷ ls) rest ∙ ap (λ (x : Item). cut_to 0 x ∷ up_to question zero trailing items) same
none_lost question (suc most) trailing [] [] h none = refl
none_lost question (suc most) trailing [] (outcome ∷ outcomes) h none = absurd h
none_lost question (suc most) trailing (item ∷ items) [] h none = absurd h
none_lost question (suc most) trailing (item ∷ items) (outcome ∷ outcomes) h none =
    let one = cut_to (suc most) outcome in
    let left : ℕ = suc most - selected_in question one in
    let taken = up_to question left trailing outcomes in
    let counted = count-cons is_given_up one taken in
    let rest = none_lost question left trailing items outcomes h.1 (second (cond (is_given_up outcome) 1 0) (given_up_count taken) (given_up_count (one ∷ taken)) counted none) in
    let same = kept item outcome h.0 (first (cond (is_given_up outcome) 1 0) (given_up_count taken) (given_up_count (one ∷ taken)) counted none) in
    ap (λ ls. one ∷ ls) rest ∙ ap (λ (x : Item). cut_to (suc most) x ∷ up_to question (suc most - selected_in question (cut_to (suc most) x)) trailing items) same
