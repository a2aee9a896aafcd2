-- Words, numbers and strings that stand at a place.
use Rattle.std.proofs.Common.{◌≡◌, ℕ, ◌+◌, ◌-◌, true, List, [], ◌∷◌, length, take, drop, subst, refl, arith, eqb}
use Rattle.std.proofs.lemmas.Bool.{and_from, eq-eqb}
use Rattle.std.specs.Cmp.Lexicographic.{pointwise}
use Rattle.jp_model.specs.Json.Places.{Reads}
use Rattle.jp_model.proofs.Reader.Lexical.{reads_end}

pointwise_self : (xs : List ℕ) → pointwise eqb xs xs ≡ true
pointwise_self [] = refl
pointwise_self (x ∷ xs) = and_from _ _ (eq-eqb x x refl) (pointwise_self xs)

-- a word that reads so is equal to it
pub reads_equal : (line word : List ℕ) (i j k : ℕ) → Reads line i j word → k ≡ length word → pointwise eqb (take k (drop i line)) word ≡ true
reads_equal line word i j k r e =
    let l : j ≡ i + length word = reads_end line i j word r in
    let m : j - i ≡ k = omega arith in
    rw (subst (λ x. take x (drop i line) ≡ word) m r.are) (pointwise_self word)
