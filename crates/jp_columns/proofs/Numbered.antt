-- Numbers from 0 on in any order: they are all columns.
use Rattle.std.proofs.Common.{◌≡◌, ◌∙◌, ◌<◌, ℕ, List, All, true, eq-eqb, get_or, nat_eq, sym, arith}
use Rattle.std.specs.List.{list_any, range_with_len}
use Rattle.std.specs.List.Sorted.{IsPermutation}
use Rattle.std.proofs.lemmas.List.Folds.{list_any_at}
use Rattle.std.proofs.lemmas.List.FromFn.{get_or-range_with_len, length-range_with_len}
use Rattle.std.proofs.lemmas.List.Sorted.{All-permutation, list_any-IsPermutation}

module _ (n : ℕ) (columns : List ℕ) (moved : IsPermutation (range_with_len 0 n) columns) where
  pub all_numbered : (column : ℕ) → column < n → list_any (nat_eq column) columns ≡ true
  all_numbered column within =
      let count = length-range_with_len 0 n in
      let there = get_or-range_with_len 0 n column 0 within in
      sym (list_any-IsPermutation (nat_eq column) (range_with_len 0 n) columns moved)
      ∙ list_any_at (nat_eq column) (range_with_len 0 n) column 0 (omega (arith, count, within)) (eq-eqb column (get_or (range_with_len 0 n) column 0) (omega (arith, there)))

  pub each_numbered : All (λ column. column < n) columns
  each_numbered = All-permutation (λ column. column < n) (range_with_len 0 n) columns moved (λ k d l.
      let count = length-range_with_len 0 n in
      let there = get_or-range_with_len 0 n k d (omega (arith, count, l)) in
      omega (arith, there, count, l))
