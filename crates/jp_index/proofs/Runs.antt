-- The lines between two edges of a key are those whose keys compare so with it.
use Rattle.std.proofs.Common.{◌≡◌, ◌∙◌, ◌↔◌, ◌⊎◌, inl, inr, ℕ, ◌-◌, Bool, true, false, not, ◌&&◌, List, [], ◌∷◌, ◌++◌, length, take, drop, get_or, Option, refl, sym, ap, ap₂, subst, arith, append-nil, length-drop, Less}
use Rattle.std.specs.Prelude.{All, Contains, filter}
use Rattle.std.specs.List.{AllPairs}
use Rattle.std.specs.List.Sorted.{IsPartitionPoint}
use Rattle.std.proofs.lemmas.Bool.{cases_Bool}
use Rattle.std.proofs.lemmas.List.{take_all, take-append-drop}
use Rattle.std.proofs.lemmas.List.Elements.{All-contains, All-contains_itself, All-filter, All-head, All-tail, All-take, filter-append, filter_passes}
use Rattle.jp_model.specs.Query.Syntax.{CompareOp}
use Rattle.jp_values.specs.declared.key.Key.{Key}
use Rattle.jp_index.specs.ByKey.{line_order, Ascend}
use Rattle.jp_index.specs.Edges.{in_front, start_of, end_of, is_between}
use Rattle.jp_index.specs.declared.edge.Edge.{Edge}
use Rattle.jp_index.proofs.Ascending.{among_cons, among_first, among_none, among_rest, behind_all, front_all, pairs_right}

module _ {X : Type 0} (p : X → Bool) where
  pub filter_none : (xs : List X) → All (λ x. p x ≡ false) xs → filter p xs ≡ []
  filter_none [] h = refl
  filter_none (x ∷ xs) h = let e = All-head (λ y. p y ≡ false) x xs h in rw e (filter_none xs (All-tail (λ y. p y ≡ false) x xs h))

  filter_all : (xs : List X) → All (λ x. p x ≡ true) xs → filter p xs ≡ xs
  filter_all [] h = refl
  filter_all (x ∷ xs) h = let e = All-head (λ y. p y ≡ true) x xs h in rw e (ap (λ t. x ∷ t) (filter_all xs (All-tail (λ y. p y ≡ true) x xs h)))

  kept_first : (x a : X) (xs : List X) → p x ≡ true → (a ≡ x) ⊎ Contains (filter p xs) a → Contains (filter p (x ∷ xs)) a
  kept_first x a xs e h = rw e (elim h [ inl same ↦ subst (Contains (x ∷ filter p xs)) (sym same) (among_first x (filter p xs)) | inr there ↦ among_rest x a (filter p xs) there ])

  kept_rest : (x a : X) (xs : List X) → Contains (filter p xs) a → Contains (filter p (x ∷ xs)) a
  kept_rest x a xs h = elim (cases_Bool (p x)) [
    | inl e ↦ kept_first x a xs e (inr h)
    | inr e ↦ rw e h
  ]

  keeps : (xs : List X) (a : X) → p a ≡ true → Contains xs a → Contains (filter p xs) a
  keeps [] a e h = absurd (among_none a h)
  keeps (x ∷ xs) a e h = elim (among_cons x a xs h) [
    | inl same ↦ kept_first x a xs (ap p (sym same) ∙ e) (inl same)
    | inr there ↦ kept_rest x a xs (keeps xs a e there)
  ]

  -- what a filter keeps
  pub kept : (xs : List X) (a : X) → Contains (filter p xs) a ↔ (Contains xs a × (p a ≡ true))
  kept xs a = (
    λ h. (All-contains (Contains xs) (filter p xs) a (All-filter p (Contains xs) xs (All-contains_itself xs)) h, All-contains (λ x. p x ≡ true) (filter p xs) a (filter_passes p xs) h),
    λ h. keeps xs a h.1 h.0,
  )

and_false : (b : Bool) → (b && false) ≡ false
and_false true = refl
and_false false = refl

module _ (keys : ℕ → Option Key) (op : CompareOp) (key : Key) where
  abbrev pub between : ℕ → Bool
  between a = is_between op (keys a) key

  -- lines in front of where they begin, and after where they end
  pub none_in_front : (lines : List ℕ) → All (λ a. in_front (start_of op) (keys a) key ≡ true) lines → filter between lines ≡ []
  none_in_front lines h = filter_none between lines (λ k d l. ap (λ b. not b && in_front (end_of op) (keys (get_or lines k d)) key) (h k d l))

  pub none_behind : (lines : List ℕ) → All (λ a. in_front (end_of op) (keys a) key ≡ false) lines → filter between lines ≡ []
  none_behind lines h = filter_none between lines (λ k d l. ap (λ b. not (in_front (start_of op) (keys (get_or lines k d)) key) && b) (h k d l) ∙ and_false _)

  abbrev AtEdge : Edge → List ℕ → ℕ → Type 0
  AtEdge edge ys i = IsPartitionPoint (λ a. in_front edge (keys a) key ≡ true) (λ a. in_front edge (keys a) key ≡ false) ys i

  module _ (xs : List ℕ) (n m : ℕ) where
    between_edges : AtEdge (start_of op) xs n → AtEdge (end_of op) (drop n xs) m → take m (drop n xs) ≡ filter between xs
    between_edges first second =
        let behind : All (λ a. in_front (start_of op) (keys a) key ≡ false) (drop n xs) = behind_all (λ a. in_front (start_of op) (keys a) key ≡ false) xs n first.1 in
        let starts : All (λ a. in_front (start_of op) (keys a) key ≡ false) (take m (drop n xs)) = All-take (λ a. in_front (start_of op) (keys a) key ≡ false) m (drop n xs) behind in
        let ends = front_all (λ a. in_front (end_of op) (keys a) key ≡ true) (drop n xs) m second.0 in
        let inner : filter between (take m (drop n xs)) ≡ take m (drop n xs) = filter_all between (take m (drop n xs)) (λ k d l. ap₂ (λ (p q : Bool). not p && q) (starts k d l) (ends k d l)) in
        let outer : filter between (drop m (drop n xs)) ≡ [] = none_behind (drop m (drop n xs)) (behind_all (λ a. in_front (end_of op) (keys a) key ≡ false) (drop n xs) m second.1) in
        let front : filter between (take n xs) ≡ [] = none_in_front (take n xs) (front_all (λ a. in_front (start_of op) (keys a) key ≡ true) xs n first.0) in
        sym (ap (filter between) (sym (take-append-drop n xs)) ∙ filter-append between (take n xs) (drop n xs)
        ∙ ap₂ (λ (a b : List ℕ). a ++ b) front (ap (filter between) (sym (take-append-drop m (drop n xs))) ∙ filter-append between (take m (drop n xs)) (drop m (drop n xs)) ∙ ap₂ (λ (a b : List ℕ). a ++ b) inner outer ∙ append-nil (take m (drop n xs))))

    pub run_is : (s e : Edge) → s ≡ start_of op → e ≡ end_of op → Ascend keys xs → AtEdge s xs n
        → (Ascend keys (take (length xs - n) (drop n xs)) → AtEdge e (take (length xs - n) (drop n xs)) m) → take m (take (length xs - n) (drop n xs)) ≡ filter between xs
    run_is s e is_start is_end h first second =
        let all : take (length xs - n) (drop n xs) ≡ drop n xs = take_all (length xs - n) (drop n xs) (let l = length-drop n xs in omega arith) in
        let rest : Ascend keys (drop n xs) = pairs_right (λ a b. line_order keys a b ≡ Less) (take n xs) (drop n xs) (subst (AllPairs (λ a b. line_order keys a b ≡ Less)) (sym (take-append-drop n xs)) h) in
        let ends : AtEdge e (drop n xs) m = subst (λ ys. Ascend keys ys → AtEdge e ys m) all second rest in
        ap (take m) all ∙ between_edges (subst (λ d. AtEdge d xs n) is_start first) (subst (λ d. AtEdge d (drop n xs) m) is_end ends)
