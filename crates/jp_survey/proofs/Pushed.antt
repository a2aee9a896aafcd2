-- What holds of a list with one item more.
use Rattle.std.proofs.Common.{◌≡◌, ◌∙◌, ◌≢◌, ℕ, ◌+◌, ◌<◌, ◌≤◌, ◌⊎◌, inl, inr, List, [], ◌∷◌, ◌++◌, length, get_or, sym, subst, arith}
use Rattle.std.proofs.lemmas.Bool.{cases_lt}
use Rattle.std.proofs.lemmas.List.{get_or_append_left, get_or_push, length_push}

module _ {X : Type 0} (xs : List X) (y d : X) where
  -- what holds at each index, and at the new one
  pub each_pushed : (P : ℕ → X → Type 0) → ((k : ℕ) → k < length xs → P k (get_or xs k d)) → P (length xs) y
      → (k : ℕ) → k < length (xs ++ y ∷ []) → P k (get_or (xs ++ y ∷ []) k d)
  each_pushed P each last k l = by (cases_lt k (length xs))
    where
      by : ((k < length xs) ⊎ (length xs ≤ k)) → P k (get_or (xs ++ y ∷ []) k d)
      by (inl s) = subst (P k) (sym (get_or_append_left xs (y ∷ []) d k s)) (each k s)
      by (inr s) =
          let one = length_push xs y in
          let is : length xs ≡ k = omega (arith, one, l, s) in
          subst (λ (z : X). P k z) (sym (get_or_push xs y d k is)) (subst (λ (n : ℕ). P n y) is last)

  -- items that differ, and a new one
  pub distinct_pushed : ((j k : ℕ) → j < length xs → k < length xs → get_or xs j d ≡ get_or xs k d → j ≡ k) → ((k : ℕ) → k < length xs → get_or xs k d ≢ y)
      → (j k : ℕ) → j < length (xs ++ y ∷ []) → k < length (xs ++ y ∷ []) → get_or (xs ++ y ∷ []) j d ≡ get_or (xs ++ y ∷ []) k d → j ≡ k
  distinct_pushed once new j k m n e = by (cases_lt j (length xs)) (cases_lt k (length xs))
    where
      one : length (xs ++ y ∷ []) ≡ length xs + 1
      one = length_push xs y

      left : (i : ℕ) → i < length xs → get_or (xs ++ y ∷ []) i d ≡ get_or xs i d
      left i s = get_or_append_left xs (y ∷ []) d i s

      right : (i : ℕ) → length xs ≤ i → i < length (xs ++ y ∷ []) → get_or (xs ++ y ∷ []) i d ≡ y
      right i s t = get_or_push xs y d i (let o = one in omega (arith, o, s, t))

      by : ((j < length xs) ⊎ (length xs ≤ j)) → ((k < length xs) ⊎ (length xs ≤ k)) → j ≡ k
      by (inl s) (inl t) = once j k s t (sym (left j s) ∙ (e ∙ left k t))
      by (inl s) (inr t) = absurd (new j s (sym (left j s) ∙ (e ∙ right k t n)))
      by (inr s) (inl t) = absurd (new k t (sym (left k t) ∙ (sym e ∙ right j s m)))
      by (inr s) (inr t) = let o = one in omega (arith, o, s, t, m, n)
