-- A search that selects fewer items than are wanted answers all.
use Rattle.std.proofs.Common.{arith, ◌≡◌, ◌∙◌, ◌+◌, ◌-◌, ◌≤◌, ◌∷◌, ◌++◌, [], ℕ, zero, suc, List, Bool, true, false, ap, ap₂, append-nil, map, refl, subst, sym, Option, None, Some}
use Rattle.std.specs.Prelude.{cond}
use Rattle.std.proofs.lemmas.List.{length-take}
use Rattle.std.proofs.lemmas.List.Sums.{sum_by-cons}
use Rattle.jp_model.specs.Json.Status.{LineStatus, blank, refused, parsed}
use Rattle.jp_cut.specs.Cuts.{pieces_come}
use Rattle.jp_form.specs.declared.form.Units.{Units}
use Rattle.jp_form.specs.declared.form.Units.TheVariants as unit
use Rattle.jp_grep.specs.Items.{Item, is_given_up, is_unjudged, items_come, judged, line_item, piece_item}
use Rattle.jp_grep.specs.Matching.{selected_nodes, wants_refused}
use Rattle.jp_grep.specs.Rows.{refused_count, refused_item, selected_count, selected_in, refused_where, selected_where}
use Rattle.jp_grep.specs.Streams.{lines_come}
use Rattle.jp_grep.specs.Watching.{cut_to, up_to}
use Rattle.jp_grep.specs.declared.question.Question.{Question}
use Rattle.jp_sink.specs.Events.{Event}
use Rattle.jp_sink.specs.Telling.{Takes}
use Rattle.jp_grep.proofs.Counted.{count-cons}

-- each of some items may be judged
abbrev pub AreJudged : List Item → Type 0
AreJudged [] = Unit {0}
AreJudged (item ∷ items) = (is_unjudged item.most ≡ false) × AreJudged items

map_judged : {A : Type 0} (item_of : A → Item) → ((x : A) → is_unjudged (item_of x).most ≡ false) → (xs : List A) → AreJudged (map item_of xs)
map_judged item_of each [] = tt
map_judged item_of each (x ∷ xs) = (each x, map_judged item_of each xs)

-- those of a stream may
pub come_judged : (units : Units) (ended : Bool) (bytes : List ℕ) → AreJudged (items_come units ended bytes)
come_judged (unit.Lines framing) ended bytes = map_judged (line_item framing) (λ line. refl) (lines_come framing ended bytes)
come_judged (unit.Pieces pieces) ended bytes = map_judged piece_item (λ piece. refl) (pieces_come pieces ended bytes)

module _ (question : Question) where
  -- of those that are not judged none is selected
  none_selected : (trailing : ℕ) (items : List Item) → selected_count question (up_to question zero trailing items) ≡ zero
  none_selected zero items = refl
  none_selected (suc trailing) [] = refl
  none_selected (suc trailing) (item ∷ items) =
      sum_by-cons (selected_in question) (cut_to 0 item) (up_to question zero trailing items) ∙ ap₂ (λ (m n : ℕ). m + n) (none_where (is_given_up item)) (none_selected trailing items)
    where
      none_where : (given_up : Bool) → selected_where given_up question (Some 0) blank ≡ 0
      none_where true = refl
      none_where false = refl

  one_or_none : (b : Bool) (most : ℕ) → cond b 1 0 ≤ suc most
  one_or_none true most = omega arith
  one_or_none false most = omega arith

  few_where : (given_up : Bool) (most : ℕ) (status : LineStatus) → selected_where given_up question (Some (suc most)) status ≤ suc most
  few_where true most status = omega arith
  few_where false most blank = omega arith
  few_where false most (refused fault) = one_or_none (wants_refused question.wanted) most
  few_where false most (parsed t) = let taken = length-take (suc most) (selected_nodes question t) in omega (arith, taken)

  -- no more of its nodes are selected than are wanted
  few_in : (most : ℕ) (item : Item) → selected_in question (cut_to (suc most) item) ≤ suc most
  few_in most item = few_where (is_given_up item) most item.status

  -- one that may be judged counts as what it is
  is_judged : (most : Option ℕ) (status : LineStatus) → is_unjudged most ≡ false → judged most status ≡ status
  is_judged None status e = refl
  is_judged (Some zero) status e = absurd (cc)
  is_judged (Some (suc most)) status e = refl

  pub all_counted : (most trailing : ℕ) (items : List Item) → AreJudged items → (selected_count question (up_to question most trailing items) ≡ most → ⊥) → refused_count (up_to question most trailing items) ≡ refused_count items
  all_counted zero trailing items judged fewer = absurd (fewer (none_selected trailing items))
  all_counted (suc most) trailing [] judged fewer = refl
  all_counted (suc most) trailing (item ∷ rest) judged fewer =
      let one = cut_to (suc most) item in
      let left : ℕ = suc most - selected_in question one in
      let taken = up_to question left trailing rest in
      let sum = sum_by-cons (selected_in question) one taken in
      let few = few_in most item in
      count-cons refused_item one taken
      ∙ ap₂ (λ (b : Bool) (n : ℕ). cond b 1 0 + n) (ap (refused_where (is_given_up item)) (sym (is_judged item.most item.status judged.0)))
      (all_counted left trailing rest judged.1 (λ e. fewer (whole (suc most) (selected_in question one) (selected_count question taken) (selected_count question (one ∷ taken)) sum few e)))
      ∙ sym (count-cons refused_item item rest)
    where
      whole : (most one rest all : ℕ) → all ≡ one + rest → one ≤ most → rest ≡ most - one → all ≡ most
      whole most one rest all e l k = omega (arith, e, l, k)

-- what a sink took, where nothing stands after the rows, by another form of it
pub taken_as : {S : Type 0} (stands : S → List Event → Type 0) (old new : S) (events parts same : List Event) → parts ≡ [] → events ≡ same → Takes stands old new (events ++ parts) → Takes stands old new same
taken_as stands old new events parts same none is takes =
    λ told stood. subst (λ (l : List Event). stands new (told ++ l)) (ap (λ (l : List Event). events ++ l) none ∙ append-nil events ∙ is) (takes told stood)
