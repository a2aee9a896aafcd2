-- Places that wait, while others are in order.
use Rattle.std.proofs.Common.{◌≡◌, ◌∙◌, ℕ, zero, suc, ◌+◌, ◌-◌, ◌<◌, ◌≤◌, ◌⊎◌, inl, inr, List, [], ◌∷◌, ◌++◌, length, get_or, ap, ap₂, refl, sym, subst, arith, append_assoc}
use Rattle.std.specs.declared.cmp.Ordering.TheVariants.{Less}
use Rattle.std.specs.Cmp.Lexicographic.{slice_cmp}
use Rattle.std.proofs.lemmas.Bool.{cases_lt}
use Rattle.std.proofs.lemmas.List.{get_or_append_left, get_or_push, length_push}
use Rattle.jp_survey.specs.Entries.{stride_of_listed}
use Rattle.jp_survey.specs.Paths.{Path, Stride}
use Rattle.jp_survey.specs.Places.{ArePlaces, path_at, paths_of}
use Rattle.jp_survey.specs.Surveys.{stride_cmp}
use Rattle.jp_survey.specs.Walked.{AreBelow, AreNext, AreWaiting, Follows, IsBelow, IsLeftOf, IsOrdered, OfLast}
use Rattle.jp_survey.specs.declared.links.Link.{Link}
use Rattle.jp_survey.specs.declared.order.Below.{Below}
use Rattle.jp_survey.proofs.Orders.{follows_less}
use Rattle.jp_survey.proofs.Places.{many_paths, path_of_place}
use Rattle.jp_survey.proofs.Pushed.{each_pushed}

-- the path of a place that is listed
pub path_of_below : (names : List (List ℕ)) (links : List Link) → ArePlaces names links → (below : Below) → IsBelow names links below
    → path_at (paths_of names links) below.place ≡ path_at (paths_of names links) below.parent ++ stride_of_listed below.stride ∷ []
path_of_below names links h below is =
    path_of_place names links h below.place is.some is.within
    ∙ ap₂ (λ (p : ℕ) (s : Stride). path_at (paths_of names links) p ++ s ∷ []) is.parent (sym is.stride)

-- what goes on from a path parts from another where that does
left_longer : (p q : Path) (s : Stride) → IsLeftOf p q → IsLeftOf (p ++ s ∷ []) q
left_longer p q s h = record {
  above = h.above;
  stride = h.stride;
  other = h.other;
  rest = h.rest ++ s ∷ [];
  left-is = ap (λ (l : Path). l ++ s ∷ []) h.left-is ∙ append_assoc h.above (h.stride ∷ h.rest) (s ∷ []);
  right-is = h.right-is;
  less = h.less;
}

module _ (paths : List Path) (waiting : List ℕ) where
  -- a place more
  pub waiting_more : AreWaiting paths waiting → (place : ℕ) → place < length paths → OfLast (IsLeftOf (path_at paths place)) paths waiting → AreWaiting paths (waiting ++ place ∷ [])
  waiting_more h place inside left = record {
    within = each_pushed waiting place 0 (λ (n p : ℕ). p < length paths) h.within inside;
    falling = λ i l. by i l (cases_lt (i + 1) (length waiting));
  }
    where
      by : (i : ℕ) → i + 1 < length (waiting ++ place ∷ []) → ((i + 1 < length waiting) ⊎ (length waiting ≤ i + 1))
          → IsLeftOf (path_at paths (get_or (waiting ++ place ∷ []) (i + 1) 0)) (path_at paths (get_or (waiting ++ place ∷ []) i 0))
      by i l (inl s) =
          subst (λ (p : ℕ). IsLeftOf (path_at paths p) (path_at paths (get_or (waiting ++ place ∷ []) i 0))) (sym (get_or_append_left waiting (place ∷ []) 0 (i + 1) s))
          (subst (λ (p : ℕ). IsLeftOf (path_at paths (get_or waiting (i + 1) 0)) (path_at paths p)) (sym (get_or_append_left waiting (place ∷ []) 0 i (omega (arith, s)))) (h.falling i s))
      by i l (inr s) =
          let one = length_push waiting place in
          let last : length waiting ≡ i + 1 = omega (arith, one, l, s) in
          subst (λ (p : ℕ). IsLeftOf (path_at paths p) (path_at paths (get_or (waiting ++ place ∷ []) i 0))) (sym (get_or_push waiting place 0 (i + 1) last))
          (subst (λ (p : ℕ). IsLeftOf (path_at paths place) (path_at paths p)) (sym (get_or_append_left waiting (place ∷ []) 0 i (omega (arith, last)))) (left i (sym last)))

  -- the last one goes
  pub waiting_less : (place : ℕ) → AreWaiting paths (waiting ++ place ∷ []) → AreWaiting paths waiting × OfLast (IsLeftOf (path_at paths place)) paths waiting
  waiting_less place h = (record { within = within; falling = falling }, left)
    where
      long : length (waiting ++ place ∷ []) ≡ length waiting + 1
      long = length_push waiting place

      kept : (i : ℕ) → i < length waiting → get_or (waiting ++ place ∷ []) i 0 ≡ get_or waiting i 0
      kept i l = get_or_append_left waiting (place ∷ []) 0 i l

      within : (i : ℕ) → i < length waiting → get_or waiting i 0 < length paths
      within i l = subst (λ (p : ℕ). p < length paths) (kept i l) (h.within i (let one = long in omega (arith, one, l)))

      falling : (i : ℕ) → i + 1 < length waiting → IsLeftOf (path_at paths (get_or waiting (i + 1) 0)) (path_at paths (get_or waiting i 0))
      falling i l =
          subst (λ (p : ℕ). IsLeftOf (path_at paths p) (path_at paths (get_or waiting i 0))) (kept (i + 1) l)
          (subst (λ (p : ℕ). IsLeftOf (path_at paths (get_or (waiting ++ place ∷ []) (i + 1) 0)) (path_at paths p)) (kept i (omega (arith, l))) (h.falling i (let one = long in omega (arith, one, l))))

      left : OfLast (IsLeftOf (path_at paths place)) paths waiting
      left i e =
          subst (λ (p : ℕ). IsLeftOf (path_at paths p) (path_at paths (get_or waiting i 0))) (get_or_push waiting place 0 (i + 1) (sym e))
          (subst (λ (p : ℕ). IsLeftOf (path_at paths (get_or (waiting ++ place ∷ []) (i + 1) 0)) (path_at paths p)) (kept i (omega (arith, e))) (h.falling i (let one = long in omega (arith, one, e))))

-- A place that is listed below another was added last to those that wait.
pub record IsAddedLast (list : List Below) (place : ℕ) (waiting : List ℕ) (at : ℕ) : Type 0 where
  pub front : List ℕ
  pub next : Below
  pub within : at < length list
  pub is : (d : Below) → get_or list at d ≡ next
  pub parent : next.parent ≡ place
  pub waiting-is : waiting ≡ front ++ next.place ∷ []

-- So many were added, from the one at `end` on backwards.
pub record AreAdded (list : List Below) (place : ℕ) (old new : List ℕ) (end turn : ℕ) : Type 0 where
  pub none : turn ≡ 0 → new ≡ old
  pub last : (at : ℕ) → at + turn ≡ end → 0 < turn → IsAddedLast list place new at

module _ (names : List (List ℕ)) (links : List Link) (h : ArePlaces names links) (list : List Below) (b : AreBelow names links list) (place : ℕ) where
  child_path : (at : ℕ) → at < length list → (next : Below) → ((d : Below) → get_or list at d ≡ next) → next.parent ≡ place
      → (next.place < length (paths_of names links)) × (path_at (paths_of names links) next.place ≡ path_at (paths_of names links) place ++ stride_of_listed next.stride ∷ [])
  child_path at l next is below =
      let it = subst (IsBelow names links) (is next) (b.each at next l) in
      let many = many_paths names links h in let within = it.within in (
        omega (arith, within, many),
        path_of_below names links h next it ∙ ap (λ (p : ℕ). path_at (paths_of names links) p ++ stride_of_listed next.stride ∷ []) below,
      )

  -- of two that are listed one after the other, the first is left of the second
  child_left : (at : ℕ) → at + 1 < length list → (next other : Below) → ((d : Below) → get_or list at d ≡ next) → ((d : Below) → get_or list (at + 1) d ≡ other) → next.parent ≡ place → other.parent ≡ place
      → IsLeftOf (path_at (paths_of names links) next.place) (path_at (paths_of names links) other.place)
  child_left at l next other is other-is below above = record {
    above = path_at (paths_of names links) place;
    stride = stride_of_listed next.stride;
    other = stride_of_listed other.stride;
    rest = [];
    left-is = (child_path at (omega (arith, l)) next is below).1;
    right-is = (child_path (at + 1) l other other-is above).1;
    less = subst (λ (x : Below). stride_cmp (stride_of_listed x.stride) (stride_of_listed other.stride) ≡ Less) (is next)
        (subst (λ (y : Below). stride_cmp (stride_of_listed (get_or list at next).stride) (stride_of_listed y.stride) ≡ Less) (other-is next)
        (b.rising at next l (ap (λ (x : Below). x.parent) (is next) ∙ (below ∙ sym (ap (λ (x : Below). x.parent) (other-is next) ∙ above)))));
  }

  module _ (old new : List ℕ) (left : OfLast (IsLeftOf (path_at (paths_of names links) place)) (paths_of names links) old) (end turn : ℕ) (added : AreAdded list place old new end turn) where
    last_at : (waiting front : List ℕ) (p i : ℕ) → waiting ≡ front ++ p ∷ [] → i + 1 ≡ length waiting → get_or waiting i 0 ≡ p
    last_at waiting front p i is e =
        let one = length_push front p in let long = ap length is in
        ap (λ (w : List ℕ). get_or w i 0) is ∙ get_or_push front p 0 i (omega (arith, e, one, long))

    -- the one that is listed before those that were added
    pub adds : (at : ℕ) → at + 1 + turn ≡ end → at < length list → (next : Below) → ((d : Below) → get_or list at d ≡ next) → next.parent ≡ place → AreWaiting (paths_of names links) new
        → AreWaiting (paths_of names links) (new ++ next.place ∷ [])
    adds at e l next is below waiting =
        let child = child_path at l next is below in
        waiting_more (paths_of names links) new waiting next.place child.0 (λ i last. by i last (cases_lt 0 turn))
      where
        by : (i : ℕ) → i + 1 ≡ length new → ((0 < turn) ⊎ (turn ≤ 0)) → IsLeftOf (path_at (paths_of names links) next.place) (path_at (paths_of names links) (get_or new i 0))
        by i last (inl some) =
            let it = added.last (at + 1) e some in
            subst (λ (p : ℕ). IsLeftOf (path_at (paths_of names links) next.place) (path_at (paths_of names links) p)) (sym (last_at new it.front it.next.place i it.waiting-is last))
            (child_left at it.within next it.next is it.is below it.parent)
        by i last (inr none) =
            let same = added.none (omega (arith, none)) in
            subst (λ (p : Path). IsLeftOf p (path_at (paths_of names links) (get_or new i 0))) (sym (child_path at l next is below).1)
            (left_longer (path_at (paths_of names links) place) (path_at (paths_of names links) (get_or new i 0)) (stride_of_listed next.stride)
            (subst (λ (w : List ℕ). IsLeftOf (path_at (paths_of names links) place) (path_at (paths_of names links) (get_or w i 0))) (sym same)
            (left i (last ∙ ap length same))))

    -- the next one follows the place
    pub added_next : turn ≤ end → AreWaiting (paths_of names links) new → AreNext (paths_of names links) (path_at (paths_of names links) place) new
    added_next most waiting = record { falling = waiting; next = λ i last. by i last (cases_lt 0 turn) }
      where
        by : (i : ℕ) → i + 1 ≡ length new → ((0 < turn) ⊎ (turn ≤ 0)) → Follows (path_at (paths_of names links) place) (path_at (paths_of names links) (get_or new i 0))
        by i last (inl some) =
            let it = added.last (end - turn) (omega (arith, most)) some in
            inl (stride_of_listed it.next.stride, ap (path_at (paths_of names links)) (last_at new it.front it.next.place i it.waiting-is last) ∙ (child_path (end - turn) it.within it.next it.is it.parent).1)
        by i last (inr none) =
            let same = added.none (omega (arith, none)) in
            inr (subst (λ (w : List ℕ). IsLeftOf (path_at (paths_of names links) place) (path_at (paths_of names links) (get_or w i 0))) (sym same) (left i (last ∙ ap length same)))

-- one more is added
pub added_more : (list : List Below) (place : ℕ) (old new : List ℕ) (end turn at : ℕ) → at + 1 + turn ≡ end → at < length list → (next : Below) → ((d : Below) → get_or list at d ≡ next) → next.parent ≡ place
    → AreAdded list place old (new ++ next.place ∷ []) end (turn + 1)
added_more list place old new end turn at e l next is below = record {
  none = λ z. absurd (omega (arith, z));
  last = λ i f some. subst (IsAddedLast list place (new ++ next.place ∷ [])) (same i f) (record { front = new; next = next; within = l; is = is; parent = below; waiting-is = refl });
}
  where
    same : (i : ℕ) → i + (turn + 1) ≡ end → at ≡ i
    same i f = omega (arith, e, f)

-- ---- places in order

-- the root alone waits
pub root_waits : (names : List (List ℕ)) (links : List Link) → ArePlaces names links → AreWaiting (paths_of names links) (0 ∷ [])
root_waits names links h = record {
  within = λ i l. root i l;
  falling = λ i l. absurd (omega (arith, l));
}
  where
    root : (i : ℕ) → i < 1 → get_or (0 ∷ []) i 0 < length (paths_of names links)
    root zero l = let many = many_paths names links h in let some = h.some in omega (arith, many, some)
    root (suc i) l = absurd (omega (arith, l))

-- the order goes on with the next one
pub ordered_more : (paths : List Path) (order : List ℕ) (place : ℕ) → IsOrdered paths order → place < length paths → ((i : ℕ) → i + 1 ≡ length order → Follows (path_at paths (get_or order i 0)) (path_at paths place))
    → IsOrdered paths (order ++ place ∷ [])
ordered_more paths order place h inside follows = record {
  within = each_pushed order place 0 (λ (n p : ℕ). p < length paths) h.within inside;
  rising = λ i l. by i l (cases_lt (i + 1) (length order));
}
  where
    by : (i : ℕ) → i + 1 < length (order ++ place ∷ []) → ((i + 1 < length order) ⊎ (length order ≤ i + 1))
        → slice_cmp stride_cmp (path_at paths (get_or (order ++ place ∷ []) i 0)) (path_at paths (get_or (order ++ place ∷ []) (i + 1) 0)) ≡ Less
    by i l (inl s) =
        ap₂ (λ (p q : ℕ). slice_cmp stride_cmp (path_at paths p) (path_at paths q)) (get_or_append_left order (place ∷ []) 0 i (omega (arith, s))) (get_or_append_left order (place ∷ []) 0 (i + 1) s)
        ∙ h.rising i s
    by i l (inr s) =
        let one = length_push order place in
        let last : length order ≡ i + 1 = omega (arith, one, l, s) in
        ap₂ (λ (p q : ℕ). slice_cmp stride_cmp (path_at paths p) (path_at paths q)) (get_or_append_left order (place ∷ []) 0 i (omega (arith, last))) (get_or_push order place 0 (i + 1) last)
        ∙ follows_less (path_at paths (get_or order i 0)) (path_at paths place) (follows i (sym last))

-- the next place that waits
module _ (paths : List Path) (order rest : List ℕ) (place : ℕ) (waits : AreWaiting paths (rest ++ place ∷ [])) where
  at_end : get_or (rest ++ place ∷ []) (length rest) 0 ≡ place
  at_end = get_or_push rest place 0 (length rest) refl

  pub next_within : place < length paths
  next_within = subst (λ (p : ℕ). p < length paths) at_end (waits.within (length rest) (let one = length_push rest place in omega (arith, one)))

  pub next_ordered : IsOrdered paths order → ((i : ℕ) → i + 1 ≡ length order → AreNext paths (path_at paths (get_or order i 0)) (rest ++ place ∷ [])) → IsOrdered paths (order ++ place ∷ [])
  next_ordered ordered next = ordered_more paths order place ordered next_within
      (λ i e. subst (λ (p : ℕ). Follows (path_at paths (get_or order i 0)) (path_at paths p)) at_end
      ((next i e).next (length rest) (let one = length_push rest place in omega (arith, one))))
