-- Lists that grow up to a length.
use Rattle.std.proofs.Common.{◌≡◌, ℕ, suc, ◌+◌, ◌<◌, ◌≤◌, List, [], ◌∷◌, length, drop, get_or, sym, ◌∙◌, ap, ap₂, refl, arith}
use Rattle.std.proofs.Math.Seq.{drop-cons}

-- a list from the place of an item on
pub item_at : {A : Type 0} (xs : List A) (i : ℕ) (d : A) → i < length xs → d ≡ get_or xs i d → drop i xs ≡ d ∷ drop (i + 1) xs
item_at xs i d l e =
    let next : suc i ≡ i + 1 = omega arith in
    drop-cons xs i d l ∙ (ap (λ y. y ∷ drop (suc i) xs) (sym e) ∙ ap (λ k. d ∷ drop k xs) next)

pub one_item : {A : Type 0} (xs : List A) (a : A) → a ≡ get_or xs 0 a → 1 ≤ length xs → length xs < 2 → xs ≡ a ∷ []
one_item [] a e h l = absurd (omega (arith, h))
one_item (x ∷ []) a e h l = ap (λ y. y ∷ []) (sym e)
one_item (x ∷ y ∷ xs) a e h l = absurd (omega (arith, l))

pub two_items : {A : Type 0} (xs : List A) (a b : A) → a ≡ get_or xs 0 a → b ≡ get_or xs 1 b → 2 ≤ length xs → length xs < 3 → xs ≡ a ∷ b ∷ []
two_items [] a b e f h l = absurd (omega (arith, h))
two_items (x ∷ []) a b e f h l = absurd (omega (arith, h))
two_items (x ∷ y ∷ []) a b e f h l = ap₂ (λ p q. p ∷ q ∷ []) (sym e) (sym f)
two_items (x ∷ y ∷ z ∷ xs) a b e f h l = absurd (omega (arith, l))

pub no_item : {A : Type 0} (xs : List A) → length xs ≡ 0 → xs ≡ []
no_item [] e = refl
no_item (x ∷ xs) e = absurd (omega (arith, e))
