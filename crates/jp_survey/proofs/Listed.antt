-- Places that are listed below others, in order.
use Rattle.std.proofs.Common.{◌≡◌, ◌∙◌, ◌≢◌, ℕ, ◌+◌, ◌<◌, List, [], ◌∷◌, ◌++◌, true, length, get_or, map, ap₂, sym, arith, eqb}
use Rattle.std.specs.Prelude.{All, AllPairs}
use Rattle.std.specs.List.{IsDistinct}
use Rattle.std.specs.List.Sorted.{IsPermutation, IsSorted}
use Rattle.std.proofs.lemmas.Bool.{eq-eqb, eqb-true}
use Rattle.std.proofs.lemmas.List.{get_or-map, length-map}
use Rattle.std.proofs.lemmas.List.Sorted.{All-permutation, IsPermutation-map}
use Rattle.std.proofs.lemmas.Map.Keys.{IsDistinct-IsPermutation}
use Rattle.std.proofs.lemmas.Map.Made.{AllPairs-from_IsDistinct, IsDistinct-from_AllPairs}
use Rattle.jp_survey.specs.Entries.{stride_of_listed}
use Rattle.jp_survey.specs.Paths.{Stride}
use Rattle.jp_survey.specs.Places.{ArePlaces, path_at, paths_of}
use Rattle.std.specs.declared.cmp.Ordering.TheVariants.{Less}
use Rattle.jp_survey.specs.Surveys.{stride_cmp}
use Rattle.jp_survey.specs.Walked.{AreBelow, IsBelow}
use Rattle.jp_survey.specs.contracts.order.BelowOrd.TheImpl as below_order
use Rattle.jp_survey.specs.declared.links.Link.{Link}
use Rattle.jp_survey.specs.declared.order.Below.{Below}
use Rattle.jp_survey.proofs.Equalities.{number_symm}
use Rattle.jp_survey.proofs.Orders.{below_rises}
use Rattle.jp_survey.proofs.Waiting.{path_of_below}

eqb_decides : (a b : ℕ) → (eqb a b ≡ true → a ≡ b) × (a ≡ b → eqb a b ≡ true)
eqb_decides a b = (eqb-true a b, eq-eqb a b)

first_of : (list : List Below) → 0 < length list → Below
first_of [] l = absurd (omega (arith, l))
first_of (below ∷ list) l = below

-- they are below others in any order, and once they are sorted the strides rise
pub listed_below : (names : List (List ℕ)) (links : List Link) → ArePlaces names links → (list sorted : List Below) → All (IsBelow names links) list
    → ((i : ℕ) (d : Below) → i < length list → (get_or list i d).place ≡ i + 1) → IsPermutation list sorted → IsSorted below_order.ghosts.cmp sorted → AreBelow names links sorted
listed_below names links h list sorted each numbered moved order = record { each = λ i d l. all i d l; rising = rising }
  where
    number : Below → ℕ
    number below = below.place

    all : All (IsBelow names links) sorted
    all = All-permutation (IsBelow names links) list sorted moved each

    numbers : (xs : List Below) (i : ℕ) (d : Below) (e : ℕ) → i < length xs → get_or (map number xs) i e ≡ (get_or xs i d).place
    numbers xs i d e l = get_or-map number xs i d e l

    distinct : IsDistinct eqb (map number list)
    distinct = IsDistinct-from_AllPairs eqb_decides (map number list) pairs
      where
        pairs : AllPairs (λ (x y : ℕ). x ≢ y) (map number list)
        pairs i j e low l same =
            let long = length-map list number in
            let first = first_of list (omega (arith, long, l)) in
            let one : get_or (map number list) i e ≡ i + 1 = numbers list i first e (omega (arith, long, low, l)) ∙ numbered i first (omega (arith, long, low, l)) in
            let two : get_or (map number list) j e ≡ j + 1 = numbers list j first e (omega (arith, long, l)) ∙ numbered j first (omega (arith, long, l)) in
            absurd (omega (arith, one, two, same, low))

    distinct_sorted : IsDistinct eqb (map number sorted)
    distinct_sorted = IsDistinct-IsPermutation eqb (λ x y. number_symm x y) (map number list) (map number sorted) (IsPermutation-map number list sorted moved) distinct

    rising : (i : ℕ) (d : Below) → i + 1 < length sorted → (get_or sorted i d).parent ≡ (get_or sorted (i + 1) d).parent
        → stride_cmp (stride_of_listed (get_or sorted i d).stride) (stride_of_listed (get_or sorted (i + 1) d).stride) ≡ Less
    rising i d l same =
        below_rises (get_or sorted i d) (get_or sorted (i + 1) d) (order i d (omega arith) l) same (λ strides.
        let long = length-map sorted number in let inside : i < length sorted = omega (arith, l) in
        let paths : path_at (paths_of names links) (get_or sorted i d).place ≡ path_at (paths_of names links) (get_or sorted (i + 1) d).place =
        path_of_below names links h (get_or sorted i d) (all i d inside)
        ∙ (ap₂ (λ (p : ℕ) (s : Stride). path_at (paths_of names links) p ++ s ∷ []) same strides
        ∙ sym (path_of_below names links h (get_or sorted (i + 1) d) (all (i + 1) d l))) in
        let places : (get_or sorted i d).place ≡ (get_or sorted (i + 1) d).place =
        h.distinct_paths (get_or sorted i d).place (get_or sorted (i + 1) d).place (all i d inside).within (all (i + 1) d l).within paths in
        AllPairs-from_IsDistinct eqb_decides (map number sorted) distinct_sorted i (i + 1) 0 (omega arith) (omega (arith, long, l))
        (numbers sorted i d 0 inside ∙ (places ∙ sym (numbers sorted (i + 1) d 0 l))))
