-- The numbers of the elements that pass a test, of a list with one element more.
use Rattle.std.proofs.Common.{◌≡◌, ℕ, ◌+◌, Bool, true, false, List, [], ◌∷◌, ◌++◌, length, sym, ap, arith, if◌then◌else◌}
use Rattle.jp_model.specs.Numbered.{numbers_where}

one_before : (b : Bool) (n : ℕ) (rest whole tail : List ℕ) → whole ≡ rest ++ tail → (if b then n ∷ whole else whole) ≡ (if b then n ∷ rest else rest) ++ tail
one_before true n rest whole tail e = ap (λ (l : List ℕ). n ∷ l) e
one_before false n rest whole tail e = e

-- one element more, whose number is m
pub numbers_where-append : {X : Type 0} (test : X → Bool) (n m : ℕ) (xs : List X) (x : X) → m ≡ n + length xs
    → numbers_where test n (xs ++ x ∷ []) ≡ numbers_where test n xs ++ (if test x then m ∷ [] else [])
numbers_where-append test n m [] x e = let same : m ≡ n = omega arith in ap (λ k. if test x then k ∷ [] else []) (sym same)
numbers_where-append test n m (y ∷ xs) x e =
    one_before (test y) n (numbers_where test (n + 1) xs) (numbers_where test (n + 1) (xs ++ x ∷ [])) (if test x then m ∷ [] else []) (numbers_where-append test (n + 1) m xs x (omega (arith, e)))
