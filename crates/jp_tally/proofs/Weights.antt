-- How often rows came, by entries.
use Rattle.std.proofs.Common.{◌≡◌, ◌∙◌, ℕ, List, [], ◌∷◌, ◌++◌, ◌+◌, ap, refl, sym, arith, true, false, if◌then◌else◌, cond}
use Rattle.std.specs.Str.{bytes_eq}
use Rattle.std.specs.Cmp.Lexicographic.{same_text}
use Rattle.std.proofs.lemmas.List.Sums.{sum_by-append, sum_by-cons}
use Rattle.jp_tally.specs.Counting.{joined, lead, weight}
use Rattle.jp_tally.specs.Tallies.{Entry, times}
use Rattle.jp_tally.proofs.Joining.{entry}

-- what an entry has of a row
abbrev pub share : List ℕ → Entry → ℕ
share row e = cond (bytes_eq row e.row) e.count 0

pub weight-cons : (row : List ℕ) (e : Entry) (more : List Entry) → weight row (e ∷ more) ≡ share row e + weight row more
weight-cons row e more = sum_by-cons (share row) e more

pub weight-append : (row : List ℕ) (a b : List Entry) → weight row (a ++ b) ≡ weight row a + weight row b
weight-append row a b = sum_by-append (share row) a b

pub times-cons : (row first : List ℕ) (more : List (List ℕ)) → times row (first ∷ more) ≡ cond (bytes_eq row first) 1 0 + times row more
times-cons row first more = sum_by-cons (λ other. cond (bytes_eq row other) 1 0) first more

pub times-append : (row : List ℕ) (a b : List (List ℕ)) → times row (a ++ b) ≡ times row a + times row b
times-append row a b = sum_by-append (λ other. cond (bytes_eq row other) 1 0) a b

-- joining changes no count
weight-lead : (row : List ℕ) (e : Entry) (more : List Entry) → weight row (lead e more) ≡ share row e + weight row more
weight-lead row e [] = weight-cons row e []
weight-lead row e (next ∷ more) =
    elim (bytes_eq next.row e.row) as (λ t. bytes_eq next.row e.row ≡ t → weight row (if t then entry e.row (e.count + next.count) ∷ more else e ∷ next ∷ more) ≡ share row e + weight row (next ∷ more)) [
      | true ↦ λ h.
          let same : next.row ≡ e.row = same_text next.row e.row (sym h) in
          let both : share row (entry e.row (e.count + next.count)) ≡ share row e + share row next =
          elim (bytes_eq row e.row) as (λ t. cond t (e.count + next.count) 0 ≡ cond t e.count 0 + cond t next.count 0) [ true ↦ refl | false ↦ refl ]
          ∙ ap (λ r. share row e + cond (bytes_eq row r) next.count 0) (sym same) in
          let made = weight-cons row (entry e.row (e.count + next.count)) more in
          let was = weight-cons row next more in
          omega (arith, both, made, was)
      | false ↦ λ h. weight-cons row e (next ∷ more)
    ] refl

pub weight-joined : (row : List ℕ) (entries : List Entry) → weight row (joined entries) ≡ weight row entries
weight-joined row [] = refl
weight-joined row (e ∷ more) = weight-lead row e (joined more) ∙ (ap (λ n. share row e + n) (weight-joined row more) ∙ sym (weight-cons row e more))
