-- The counts of a tally, and the number of its rows.
use Rattle.std.proofs.Common.{◌≡◌, ◌∙◌, ℕ, zero, List, [], ◌∷◌, ◌+◌, ◌<◌, ◌≤◌, length, get_or, ap, refl, sym, arith, cond, min}
use Rattle.std.specs.Prelude.{suc, All, sum_by}
use Rattle.std.specs.List.Sorted.{IsPermutation}
use Rattle.std.specs.Str.{bytes_eq}
use Rattle.std.proofs.lemmas.Cmp.{nat_list_eq_equiv}
use Rattle.std.proofs.lemmas.List.Sorted.{sum_by-IsPermutation}
use Rattle.std.proofs.lemmas.List.Sums.{sum_by-cons}
use Rattle.jp_tally.specs.Tallies.{Entry, IsTally, entries_with, times}
use Rattle.jp_tally.proofs.Weights.{times-cons}

-- sums of equal terms are equal
same_sums : {X : Type 0} (f g : X → ℕ) (xs : List X) → All (λ (x : X). f x ≡ g x) xs → sum_by f xs ≡ sum_by g xs
same_sums f g [] h = refl
same_sums f g (x ∷ xs) h =
    let first : f x ≡ g x = h 0 x (omega arith) in
    let rest = same_sums f g xs (λ k d l. h (suc k) d (omega arith)) in
    let a = sum_by-cons f x xs in let b = sum_by-cons g x xs in
    omega (arith, first, rest, a, b)

-- a sum of sums
sum_plus : {X : Type 0} (f g : X → ℕ) (xs : List X) → sum_by (λ x. f x + g x) xs ≡ sum_by f xs + sum_by g xs
sum_plus f g [] = refl
sum_plus f g (x ∷ xs) =
    let rest = sum_plus f g xs in
    let a = sum_by-cons (λ y. f y + g y) x xs in let b = sum_by-cons f x xs in let c = sum_by-cons g x xs in
    omega (arith, rest, a, b, c)

no_sum : {X : Type 0} (xs : List X) → sum_by (λ x. 0) xs ≡ 0
no_sum [] = refl
no_sum (x ∷ xs) = let rest = no_sum xs in let a = sum_by-cons (λ y. 0) x xs in omega (arith, rest, a)

ones : {X : Type 0} (xs : List X) → sum_by (λ x. 1) xs ≡ length xs
ones [] = refl
ones (x ∷ xs) = let rest = ones xs in let a = sum_by-cons (λ y. 1) x xs in omega (arith, rest, a)

-- how often the rows of entries came is how many entries the rows have
crossed : (rows : List (List ℕ)) (tally : List Entry) → sum_by (λ (e : Entry). times e.row rows) tally ≡ sum_by (λ row. entries_with row tally) rows
crossed [] tally = no_sum tally
crossed (row ∷ more) tally =
    let each = same_sums (λ (e : Entry). times e.row (row ∷ more)) (λ (e : Entry). cond (bytes_eq e.row row) 1 0 + times e.row more) tally
    (λ k d l. times-cons (get_or tally k d).row row more) in
    let parts = sum_plus (λ (e : Entry). cond (bytes_eq e.row row) 1 0) (λ (e : Entry). times e.row more) tally in
    let turned = same_sums (λ (e : Entry). cond (bytes_eq e.row row) 1 0) (λ (e : Entry). cond (bytes_eq row e.row) 1 0) tally
    (λ k d l. ap (λ t. cond t 1 0) (nat_list_eq_equiv.symm (get_or tally k d).row row)) in
    let rest = crossed more tally in
    let right = sum_by-cons (λ r. entries_with r tally) row more in
    omega (arith, each, parts, turned, rest, right)

-- a row that came did so once at least
came_once : (rows : List (List ℕ)) (k : ℕ) (d : List ℕ) → k < length rows → 1 ≤ times (get_or rows k d) rows
came_once [] k d l = absurd (omega arith)
came_once (row ∷ more) zero d l =
    let a : times row (row ∷ more) ≡ 1 + times row more = times-cons row row more ∙ ap (λ t. cond t 1 0 + times row more) (nat_list_eq_equiv.refl row) in
    omega (arith, a)
came_once (row ∷ more) (suc k) d l =
    let a = times-cons (get_or more k d) row more in
    let rest = came_once more k d (omega arith) in
    omega (arith, a, rest)

pub sum_is_length : (rows : List (List ℕ)) (tally : List Entry) → IsTally rows tally → sum_by (λ (e : Entry). e.count) tally ≡ length rows
sum_is_length rows tally h =
    same_sums (λ (e : Entry). e.count) (λ (e : Entry). times e.row rows) tally h.counts
    ∙ (crossed rows tally
    ∙ (same_sums (λ row. entries_with row tally) (λ row. 1) rows (λ k d l. let once = h.once (get_or rows k d) in let some = came_once rows k d l in omega (arith, once, some))
    ∙ ones rows))

-- rows in another order came as often
times_moved : (row : List ℕ) (rows other : List (List ℕ)) → IsPermutation rows other → times row other ≡ times row rows
times_moved row rows other moved = sum_by-IsPermutation (λ r. cond (bytes_eq row r) 1 0) rows other moved

pub tally_moved : (rows other : List (List ℕ)) (tally : List Entry) → IsPermutation rows other → IsTally rows tally → IsTally other tally
tally_moved rows other tally moved h = record {
  counts = λ k d l. h.counts k d l ∙ sym (times_moved (get_or tally k d).row rows other moved);
  once = λ row. h.once row ∙ ap (min 1) (sym (times_moved row rows other moved));
  order = h.order;
}
