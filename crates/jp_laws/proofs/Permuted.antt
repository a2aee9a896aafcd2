-- Lists that are the same, element by element, but for their order.
use Rattle.std.proofs.Common.{◌≡◌, List, [], ◌∷◌, ◌++◌, length, map, flat_map, filter, Bool, true, false, cond, refl, sym, ap, subst, ◌∙◌, append_assoc, arith}
use Rattle.std.specs.List.Sorted.{IsPermutation}
use Rattle.std.proofs.lemmas.Grind.{flat_map-append}
use Rattle.std.proofs.lemmas.List.{length-append, map-append}
use Rattle.std.proofs.lemmas.List.Elements.{filter-append}
use Rattle.std.proofs.lemmas.List.Sorted.{IsPermutation-refl, IsPermutation-cons, IsPermutation-middle, IsPermutation-sym, IsPermutation-trans}
use Rattle.jp_laws.proofs.Pairs.{Pairwise}

-- each element of the first list has one of its own in the second
abbrev pub Permuted : {X : Type 0} → (X → X → Type 0) → List X → List X → Type 0
Permuted R [] ys = ys ≡ []
Permuted {X} R (x ∷ xs) ys = (y : X) × (front : List X) × (rest : List X) × R x y × (ys ≡ front ++ y ∷ rest) × Permuted R xs (front ++ rest)

pub permuted_middle : {X : Type 0} (R : X → X → Type 0) (xs ys vs front rest : List X) → Permuted R xs ys → Permuted R vs (front ++ rest) → Permuted R (xs ++ vs) (front ++ (ys ++ rest))
permuted_middle R [] ys vs front rest p q = subst (λ (l : List _). Permuted R vs (front ++ (l ++ rest))) (sym p) q
permuted_middle R (x ∷ xs) ys vs front rest p q =
    let y = p.0 in
    let f = p.1 in
    let r = p.2 in
    let parted : front ++ (ys ++ rest) ≡ front ++ f ++ y ∷ (r ++ rest) =
    ap (λ (l : List _). front ++ (l ++ rest)) p.4 ∙ (ap (λ (l : List _). front ++ l) (append_assoc f (y ∷ r) rest) ∙ sym (append_assoc front f (y ∷ (r ++ rest)))) in
    let joined : front ++ (f ++ r ++ rest) ≡ front ++ f ++ (r ++ rest) = ap (λ (l : List _). front ++ l) (append_assoc f r rest) ∙ sym (append_assoc front f (r ++ rest)) in
    (y, front ++ f, r ++ rest, p.3, parted, subst (λ (l : List _). Permuted R (xs ++ vs) l) joined (permuted_middle R xs (f ++ r) vs front rest p.5 q))

pub permuted_append : {X : Type 0} (R : X → X → Type 0) (xs ys vs ws : List X) → Permuted R xs ys → Permuted R vs ws → Permuted R (xs ++ vs) (ys ++ ws)
permuted_append R xs ys vs ws p q = permuted_middle R xs ys vs [] ws p q

pub permuted_flat : {X Y : Type 0} (R : X → X → Type 0) (S : Y → Y → Type 0) (f g : X → List Y) → ((x y : X) → R x y → Permuted S (f x) (g y)) → (xs ys : List X) → Permuted R xs ys → Permuted S (flat_map f xs) (flat_map g ys)
permuted_flat R S f g h [] ys p = ap (flat_map g) p
permuted_flat R S f g h (x ∷ xs) ys p =
    let parted : flat_map g ys ≡ flat_map g p.1 ++ (g p.0 ++ flat_map g p.2) = ap (flat_map g) p.4 ∙ flat_map-append g p.1 (p.0 ∷ p.2) in
    subst (λ (l : List _). Permuted S (flat_map f (x ∷ xs)) l) (sym parted)
    (permuted_middle S (f x) (g p.0) (flat_map f xs) (flat_map g p.1) (flat_map g p.2) (h x p.0 p.3)
    (subst (λ (l : List _). Permuted S (flat_map f xs) l) (flat_map-append g p.1 p.2) (permuted_flat R S f g h xs (p.1 ++ p.2) p.5)))

pub permuted_map : {X Y : Type 0} (R : X → X → Type 0) (S : Y → Y → Type 0) (f g : X → Y) → ((x y : X) → R x y → S (f x) (g y)) → (xs ys : List X) → Permuted R xs ys → Permuted S (map f xs) (map g ys)
permuted_map R S f g h [] ys p = ap (map g) p
permuted_map R S f g h (x ∷ xs) ys p =
    (g p.0, map g p.1, map g p.2, h x p.0 p.3, ap (map g) p.4 ∙ map-append g p.1 (p.0 ∷ p.2), subst (λ (l : List _). Permuted S (map f xs) l) (map-append g p.1 p.2) (permuted_map R S f g h xs (p.1 ++ p.2) p.5))

pub permuted_filter : {X : Type 0} (R : X → X → Type 0) (p q : X → Bool) → ((x y : X) → R x y → p x ≡ q y) → (xs ys : List X) → Permuted R xs ys → Permuted R (filter p xs) (filter q ys)
permuted_filter R p q h [] ys a = ap (filter q) a
permuted_filter {X} R p q h (x ∷ xs) ys a =
    subst (λ (l : List X). Permuted R (filter p (x ∷ xs)) l) (sym (ap (filter q) a.4 ∙ filter-append q a.1 (a.0 ∷ a.2)))
    (step (p x) (q a.0) (h x a.0 a.3) (subst (λ (l : List X). Permuted R (filter p xs) l) (filter-append q a.1 a.2) (permuted_filter R p q h xs (a.1 ++ a.2) a.5)))
  where
    step : (b c : Bool) → b ≡ c → Permuted R (filter p xs) (filter q a.1 ++ filter q a.2) → Permuted R (cond b (x ∷ filter p xs) (filter p xs)) (filter q a.1 ++ cond c (a.0 ∷ filter q a.2) (filter q a.2))
    step true true e g = (a.0, filter q a.1, filter q a.2, a.3, refl, g)
    step false false e g = g
    step true false e g = absurd (cc)
    step false true e g = absurd (cc)

pub permuted_length : {X : Type 0} (R : X → X → Type 0) (xs ys : List X) → Permuted R xs ys → length xs ≡ length ys
permuted_length R [] ys p = sym (ap length p)
permuted_length R (x ∷ xs) ys p =
    let h = permuted_length R xs (p.1 ++ p.2) p.5 in
    let a = length-append p.1 p.2 in
    let b = length-append p.1 (p.0 ∷ p.2) in
    let e : length ys ≡ length (p.1 ++ p.0 ∷ p.2) = ap length p.4 in
    omega (arith, h, a, b, e)

pub permuted_pairs : {X : Type 0} (R : X → X → Type 0) (xs ys : List X) → Pairwise R xs ys → Permuted R xs ys
permuted_pairs R [] [] a = refl
permuted_pairs R (x ∷ xs) (y ∷ ys) a = (y, [], ys, a.0, refl, permuted_pairs R xs ys a.1)
permuted_pairs R [] (y ∷ ys) a = absurd a
permuted_pairs R (x ∷ xs) [] a = absurd a

-- what is the same of both lists is one list in another order
pub permutation_of : {X Y : Type 0} (R : X → X → Type 0) (f : X → Y) → ((x y : X) → R x y → f x ≡ f y) → (xs ys : List X) → Permuted R xs ys → IsPermutation (map f xs) (map f ys)
permutation_of R f h [] ys p = subst (λ (l : List _). IsPermutation [] (map f l)) (sym p) (IsPermutation-refl [])
permutation_of R f h (x ∷ xs) ys p =
    let again : IsPermutation (map f xs) (map f p.1 ++ map f p.2) = subst (λ (l : List _). IsPermutation (map f xs) l) (map-append f p.1 p.2) (permutation_of R f h xs (p.1 ++ p.2) p.5) in
    let first : IsPermutation (f x ∷ map f xs) (f p.0 ∷ (map f p.1 ++ map f p.2)) = subst (λ z. IsPermutation (f x ∷ map f xs) (z ∷ (map f p.1 ++ map f p.2))) (h x p.0 p.3) (IsPermutation-cons (f x) _ _ again) in
    let middle : IsPermutation (f p.0 ∷ (map f p.1 ++ map f p.2)) (map f p.1 ++ f p.0 ∷ map f p.2) = IsPermutation-sym _ _ (IsPermutation-middle (map f p.1) (f p.0) (map f p.2)) in
    subst (λ (l : List _). IsPermutation (f x ∷ map f xs) l) (sym (ap (map f) p.4 ∙ map-append f p.1 (p.0 ∷ p.2))) (IsPermutation-trans _ _ _ first middle)
