-- Lists in which each element stands in a relation to those after it, and where a test of them ends.
use Rattle.std.proofs.Common.{◌≡◌, ◌≢◌, ◌∙◌, ℕ, zero, suc, ◌+◌, ◌<◌, ◌≤◌, Bool, true, List, [], ◌∷◌, ◌++◌, length, get_or, take, drop, refl, sym, ap, ap₂, subst, arith, ◌⊎◌, inl, inr}
use Rattle.std.specs.Prelude.{All, Contains, insert, remove}
use Rattle.std.specs.List.{AllPairs, AllWithin}
use Rattle.std.specs.List.Sorted.{IsPartitionedBy}
use Rattle.std.proofs.lemmas.Bool.{cases_lt}
use Rattle.std.proofs.lemmas.List.{get_or_append_left, get_or-append-add, get_or_default, length-append}
use Rattle.std.proofs.lemmas.List.Edits.{get_or-remove_below, get_or-remove_above, length-remove}
use Rattle.std.proofs.lemmas.List.Elements.{All-nil, All-cons, All-contains, All-from_all_within}
use Rattle.std.proofs.lemmas.List.Kept.{AllPairs-cons}
use Rattle.std.proofs.lemmas.List.Sorted.{All-permutation, IsPermutation-insert}

module _ {X : Type 0} (R : X → X → Type 0) where
  pub first_of_pairs : (x : X) (xs : List X) → AllPairs R (x ∷ xs) → All (R x) xs
  first_of_pairs x xs h k d l = h zero (suc k) d (omega arith) (omega arith)

  pub rest_of_pairs : (x : X) (xs : List X) → AllPairs R (x ∷ xs) → AllPairs R xs
  rest_of_pairs x xs h i j d l m = h (suc i) (suc j) d (omega arith) (omega arith)

module _ {X : Type 0} (P : X → Type 0) where
  within_rest : (x : X) (xs : List X) (i n : ℕ) → AllWithin P (x ∷ xs) (suc i) (suc n) → AllWithin P xs i n
  within_rest x xs i n h k d low high = h (suc k) d (omega arith) (omega arith)

  front_rest : (x : X) (xs : List X) (i : ℕ) → AllWithin P (x ∷ xs) 0 (suc i) → AllWithin P xs 0 i
  front_rest x xs i h k d low high = h (suc k) d (omega arith) (omega arith)

  pub front_all : (xs : List X) (i : ℕ) → AllWithin P xs 0 i → All P (take i xs)
  front_all xs zero h = All-nil P
  front_all [] (suc i) h = All-nil P
  front_all (x ∷ xs) (suc i) h = All-cons P x (take i xs) (h zero x (omega arith) (omega arith)) (front_all xs i (front_rest x xs i h))

  pub behind_all : (xs : List X) (i : ℕ) → AllWithin P xs i (length xs) → All P (drop i xs)
  behind_all xs zero h = All-from_all_within P xs h
  behind_all [] (suc i) h = All-nil P
  behind_all (x ∷ xs) (suc i) h = behind_all xs i (within_rest x xs i (length xs) h)

module _ {X : Type 0} (R : X → X → Type 0) where
  -- one element more, after those that are to stand before it
  pub pairs_insert : (xs : List X) (i : ℕ) (y : X) → i ≤ length xs → AllPairs R xs → AllWithin (λ x. R x y) xs 0 i → AllWithin (R y) xs i (length xs) → AllPairs R (insert xs i y)
  pairs_insert xs zero y l h before behind = AllPairs-cons R y xs (All-from_all_within (R y) xs behind) h
  pairs_insert [] (suc i) y l h before behind = absurd (omega arith)
  pairs_insert (x ∷ xs) (suc i) y l h before behind =
      AllPairs-cons R x (insert xs i y)
      (All-permutation (R x) (y ∷ xs) (insert xs i y) (IsPermutation-insert xs i y) (All-cons (R x) y xs (before zero y (omega arith) (omega arith)) (first_of_pairs R x xs h)))
      (pairs_insert xs i y (omega arith) (rest_of_pairs R x xs h) (front_rest (λ z. R z y) x xs i before) (within_rest (R y) x xs i (length xs) behind))

  -- what is left without one element differs from it
  pub removed_differs : ((x : X) → R x x → ⊥) → (xs : List X) (i : ℕ) (x : X) → AllPairs R xs → i < length xs → x ≡ get_or xs i x → All (λ z. z ≢ x) (remove xs i)
  removed_differs never xs i x h l is k d m same =
      let n : length (remove xs i) + 1 ≡ length xs = length-remove xs i l in
      let there : get_or xs i d ≡ x = get_or_default xs i d x l ∙ sym is in
      elim (cases_lt k i) [
        | inl low ↦ never x (subst (λ z. R z x) (sym (get_or-remove_below xs i d k low l) ∙ same) (subst (R (get_or xs k d)) there (h k i d low l)))
        | inr high ↦ never x (subst (R x) (sym (get_or-remove_above xs i d k high l) ∙ same) (subst (λ z. R z (get_or xs (k + 1) d)) there (h i (k + 1) d (omega arith) (omega arith))))
      ]

  -- another relation of the same elements
  pub pairs_other : (S : X → X → Type 0) (P : X → Type 0) → ((x y : X) → P x → P y → R x y → S x y) → (xs : List X) → All P xs → AllPairs R xs → AllPairs S xs
  pairs_other S P f xs all h i j d l m = f (get_or xs i d) (get_or xs j d) (all i d (omega arith)) (all j d m) (h i j d l m)

  -- a test that holds of what stands before an element of which it holds
  pub partitioned : (p : X → Bool) → ((x y : X) → R x y → p y ≡ true → p x ≡ true) → (xs : List X) → AllPairs R xs → IsPartitionedBy p xs
  partitioned p falls xs h i j d l m e =
      elim (cases_lt i j) [
        | inl below ↦ falls (get_or xs i d) (get_or xs j d) (h i j d below m) e
        | inr above ↦ let same : i ≡ j = omega arith in ap (λ k. p (get_or xs k d)) same ∙ e
      ]

-- ---- one list after another

module _ {X : Type 0} (R : X → X → Type 0) (xs ys : List X) (h : AllPairs R (xs ++ ys)) where
  pub cross : (x y : X) → Contains xs x → Contains ys y → R x y
  cross x y (i, l, e) (j, m, f) =
      let n = length-append xs ys in
      let left : get_or (xs ++ ys) i y ≡ x = get_or_append_left xs ys y i l ∙ get_or_default xs i y x l ∙ e in
      let right : get_or (xs ++ ys) (length xs + j) y ≡ y = get_or-append-add xs ys j y ∙ f in
      subst (λ a. R a y) left (subst (R (get_or (xs ++ ys) i y)) right (h i (length xs + j) y (omega arith) (omega arith)))

  pub pairs_left : AllPairs R xs
  pairs_left i j d l m =
      let n = length-append xs ys in
      subst (λ a. R a (get_or xs j d)) (get_or_append_left xs ys d i (omega arith)) (subst (R (get_or (xs ++ ys) i d)) (get_or_append_left xs ys d j m) (h i j d l (omega arith)))

  pub pairs_right : AllPairs R ys
  pairs_right i j d l m =
      let n = length-append xs ys in
      subst (λ a. R a (get_or ys j d)) (get_or-append-add xs ys i d) (subst (R (get_or (xs ++ ys) (length xs + i) d)) (get_or-append-add xs ys j d) (h (length xs + i) (length xs + j) d (omega arith) (omega arith)))

-- ---- elements

pub among_cons : {X : Type 0} (x z : X) (xs : List X) → Contains (x ∷ xs) z → (z ≡ x) ⊎ Contains xs z
among_cons x z xs (zero, l, e) = inl (sym e)
among_cons x z xs (suc k, l, e) = inr (k, omega (arith, l), e)

pub among_first : {X : Type 0} (x : X) (xs : List X) → Contains (x ∷ xs) x
among_first x xs = (0, omega arith, refl)

pub among_rest : {X : Type 0} (x z : X) (xs : List X) → Contains xs z → Contains (x ∷ xs) z
among_rest x z xs h = (suc h.0, omega (arith, h.1), h.2)

pub among_none : {X : Type 0} (z : X) → Contains [] z → ⊥
among_none z h = omega (arith, h.1)

-- ---- numbers

abbrev pub Below : ℕ → ℕ → Type 0
Below x y = x < y

-- lists of ascending numbers are the same where their elements are
pub same_rising : (xs ys : List ℕ) → AllPairs Below xs → AllPairs Below ys → ((z : ℕ) → Contains xs z → Contains ys z) → ((z : ℕ) → Contains ys z → Contains xs z) → xs ≡ ys
same_rising [] [] h k f g = refl
same_rising [] (y ∷ ys) h k f g = absurd (among_none y (g y (among_first y ys)))
same_rising (x ∷ xs) [] h k f g = absurd (among_none x (f x (among_first x xs)))
same_rising (x ∷ xs) (y ∷ ys) h k f g =
    let above_x : All (Below x) xs = first_of_pairs Below x xs h in
    let above_y : All (Below y) ys = first_of_pairs Below y ys k in
    let same : x ≡ y = elim (among_cons y x ys (f x (among_first x xs))) [
      | inl e ↦ e
      | inr a ↦ elim (among_cons x y xs (g y (among_first y ys))) [
        | inl e ↦ sym e
        | inr b ↦ let c : y < x = All-contains (Below y) ys x above_y a in let d : x < y = All-contains (Below x) xs y above_x b in absurd (omega arith)
      ]
    ] in
    ap₂ (λ (a : ℕ) (zs : List ℕ). a ∷ zs) same
    (same_rising xs ys (rest_of_pairs Below x xs h) (rest_of_pairs Below y ys k)
    (λ z a. elim (among_cons y z ys (f z (among_rest x z xs a))) [
      | inl e ↦ let c : x < z = All-contains (Below x) xs z above_x a in absurd (omega arith)
      | inr b ↦ b
    ])
    (λ z a. elim (among_cons x z xs (g z (among_rest y z ys a))) [
      | inl e ↦ let c : y < z = All-contains (Below y) ys z above_y a in absurd (omega arith)
      | inr b ↦ b
    ]))
