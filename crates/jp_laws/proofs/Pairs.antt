-- Lists that are related, one element after another.
use Rattle.std.proofs.Common.{◌≡◌, List, [], ◌∷◌, ◌++◌, length, map, flat_map, filter, reverse, Bool, true, false, cond, refl, sym, ap, subst, suc}
use Rattle.std.proofs.lemmas.List.{reverse-append}

abbrev pub Pairwise : {X : Type 0} → (X → X → Type 0) → List X → List X → Type 0
Pairwise R [] [] = Unit {0}
Pairwise R (x ∷ xs) (y ∷ ys) = R x y × Pairwise R xs ys
Pairwise R _ _ = ⊥

pub pairs_append : {X : Type 0} (R : X → X → Type 0) (xs ys vs ws : List X) → Pairwise R xs ys → Pairwise R vs ws → Pairwise R (xs ++ vs) (ys ++ ws)
pairs_append R [] [] vs ws a b = b
pairs_append R (x ∷ xs) (y ∷ ys) vs ws a b = (a.0, pairs_append R xs ys vs ws a.1 b)
pairs_append R [] (y ∷ ys) vs ws a b = absurd a
pairs_append R (x ∷ xs) [] vs ws a b = absurd a

pub pairs_flat : {X Y : Type 0} (R : X → X → Type 0) (S : Y → Y → Type 0) (f g : X → List Y) → ((x y : X) → R x y → Pairwise S (f x) (g y)) → (xs ys : List X) → Pairwise R xs ys → Pairwise S (flat_map f xs) (flat_map g ys)
pairs_flat R S f g h [] [] a = tt
pairs_flat R S f g h (x ∷ xs) (y ∷ ys) a = pairs_append S (f x) (g y) (flat_map f xs) (flat_map g ys) (h x y a.0) (pairs_flat R S f g h xs ys a.1)
pairs_flat R S f g h [] (y ∷ ys) a = absurd a
pairs_flat R S f g h (x ∷ xs) [] a = absurd a

pub pairs_map : {X Y : Type 0} (R : X → X → Type 0) (S : Y → Y → Type 0) (f g : X → Y) → ((x y : X) → R x y → S (f x) (g y)) → (xs ys : List X) → Pairwise R xs ys → Pairwise S (map f xs) (map g ys)
pairs_map R S f g h [] [] a = tt
pairs_map R S f g h (x ∷ xs) (y ∷ ys) a = (h x y a.0, pairs_map R S f g h xs ys a.1)
pairs_map R S f g h [] (y ∷ ys) a = absurd a
pairs_map R S f g h (x ∷ xs) [] a = absurd a

pub pairs_filter : {X : Type 0} (R : X → X → Type 0) (p q : X → Bool) → ((x y : X) → R x y → p x ≡ q y) → (xs ys : List X) → Pairwise R xs ys → Pairwise R (filter p xs) (filter q ys)
pairs_filter R p q h [] [] a = tt
pairs_filter R p q h (x ∷ xs) (y ∷ ys) a = step (p x) (q y) (h x y a.0) (pairs_filter R p q h xs ys a.1)
  where
    step : (b c : Bool) → b ≡ c → Pairwise R (filter p xs) (filter q ys) → Pairwise R (cond b (x ∷ filter p xs) (filter p xs)) (cond c (y ∷ filter q ys) (filter q ys))
    step true true e g = (a.0, g)
    step false false e g = g
    step true false e g = absurd (cc)
    step false true e g = absurd (cc)
pairs_filter R p q h [] (y ∷ ys) a = absurd a
pairs_filter R p q h (x ∷ xs) [] a = absurd a

pub pairs_reverse : {X : Type 0} (R : X → X → Type 0) (xs ys : List X) → Pairwise R xs ys → Pairwise R (reverse xs) (reverse ys)
pairs_reverse R [] [] a = tt
pairs_reverse R (x ∷ xs) (y ∷ ys) a =
    subst (λ (l : List _). Pairwise R l (reverse (y ∷ ys))) (sym (reverse-append (x ∷ []) xs))
    (subst (λ (l : List _). Pairwise R (reverse xs ++ x ∷ []) l) (sym (reverse-append (y ∷ []) ys)) (pairs_append R (reverse xs) (reverse ys) (x ∷ []) (y ∷ []) (pairs_reverse R xs ys a.1) (a.0, tt)))
pairs_reverse R [] (y ∷ ys) a = absurd a
pairs_reverse R (x ∷ xs) [] a = absurd a

pub pairs_length : {X : Type 0} (R : X → X → Type 0) (xs ys : List X) → Pairwise R xs ys → length xs ≡ length ys
pairs_length R [] [] a = refl
pairs_length R (x ∷ xs) (y ∷ ys) a = ap suc (pairs_length R xs ys a.1)
pairs_length R [] (y ∷ ys) a = absurd a
pairs_length R (x ∷ xs) [] a = absurd a
