-- One element more of a list that is read in a loop.
use Rattle.std.proofs.Common.{◌≡◌, ℕ, suc, ◌+◌, ◌<◌, List, [], ◌∷◌, ◌++◌, length, map, take, drop, get_or, sym, ◌∙◌, ap, ap₂, add-one, take-append-drop, drop-cons}
use Rattle.std.proofs.Math.Seq.{take-suc}
use Rattle.std.proofs.lemmas.List.{map-id, map-append}

-- the scalars before it, it, and the scalars after it
pub around : (cs xs : List ℕ) (x : ℕ) → map (λ c. c) xs ≡ take (length xs) cs → length xs < length cs → x ≡ get_or cs (length xs) x → cs ≡ xs ++ x ∷ drop (length xs + 1) cs
around cs xs x before inside is =
    let rest : drop (length xs) cs ≡ x ∷ drop (length xs + 1) cs = rw add-one (drop-cons cs (length xs) x inside ∙ ap (λ (y : ℕ). y ∷ drop (suc (length xs)) cs) (sym is)) in
    sym (take-append-drop (length xs) cs) ∙ ap₂ (λ (a b : List ℕ). a ++ b) (sym before ∙ map-id xs) rest

-- all scalars
pub all_read : (cs xs : List ℕ) → map (λ c. c) xs ≡ cs → cs ≡ xs
all_read cs xs e = sym e ∙ map-id xs

-- what is made of the elements before it, of it, and of those after it
pub map_around : {A B : Type 0} (f : A → B) (xs : List A) (k : ℕ) (x : A) → k < length xs → x ≡ get_or xs k x → map f xs ≡ map f (take k xs) ++ f x ∷ map f (drop (k + 1) xs)
map_around f xs k x inside is =
    let rest : drop k xs ≡ x ∷ drop (k + 1) xs = rw add-one (drop-cons xs k x inside ∙ ap (λ y. y ∷ drop (suc k) xs) (sym is)) in
    ap (map f) (sym (take-append-drop k xs)) ∙ (map-append f (take k xs) (drop k xs) ∙ ap (λ l. map f (take k xs) ++ map f l) rest)

-- what is made of those up to it
pub map_push : {A B : Type 0} (f : A → B) (xs : List A) (k : ℕ) (x : A) → k < length xs → x ≡ get_or xs k x → map f (take (k + 1) xs) ≡ map f (take k xs) ++ f x ∷ []
map_push f xs k x inside is =
    let front : take (k + 1) xs ≡ take k xs ++ x ∷ [] = rw add-one (take-suc xs k x inside ∙ ap (λ y. take k xs ++ y ∷ []) (sym is)) in
    ap (map f) front ∙ map-append f (take k xs) (x ∷ [])
