-- The chunks of a list and what is left make up the list.
use Rattle.std.proofs.Common.{◌≡◌, ℕ, zero, suc, ◌+◌, ◌*◌, List, ◌++◌, take, drop, flat_map, sym, ap, ◌∙◌, arith, append_assoc}
use Rattle.std.proofs.lemmas.List.{drop-drop, take-append-drop}
use Rattle.std.specs.Simd.{first_chunks}

pub chunks_all : (n count : ℕ) (xs : List ℕ) → flat_map (λ b. b) (first_chunks n count xs) ++ drop (count * n) xs ≡ xs
chunks_all n zero xs = let none : zero * n ≡ 0 = omega arith in ap (λ j. drop j xs) none
chunks_all n (suc count) xs =
    let total : suc count * n ≡ n + count * n = omega arith in
    append_assoc (take n xs) (flat_map (λ b. b) (first_chunks n count (drop n xs))) (drop (suc count * n) xs)
    ∙ ap (λ l. take n xs ++ (flat_map (λ b. b) (first_chunks n count (drop n xs)) ++ l)) (ap (λ j. drop j xs) total ∙ sym (drop-drop (count * n) n xs))
    ∙ ap (λ l. take n xs ++ l) (chunks_all n count (drop n xs)) ∙ take-append-drop n xs
