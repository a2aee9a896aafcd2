-- Entries of rows that ascend, in the order of a tally, are the tally.
use Rattle.std.proofs.Common.{◌≡◌, ◌∙◌, ℕ, List, [], ◌∷◌, ◌+◌, ◌<◌, length, get_or, ap, refl, sym, subst, arith, true, false, cond, min}
use Rattle.std.specs.Prelude.{All, IfOk, Result, Ok, Err}
use Rattle.std.specs.List.{list_all}
use Rattle.std.specs.List.Sorted.{IsPermutation, IsSorted}
use Rattle.std.specs.Str.{bytes_eq}
use Rattle.std.specs.Cmp.Lexicographic.{same_text}
use Rattle.std.specs.Ordering.{is_eq, is_lt}
use Rattle.std.specs.declared.cmp.Ordering.{Ordering}
use Rattle.std.specs.declared.cmp.Ordering.TheVariants.{Less, Equal, Greater}
use Rattle.std.proofs.lemmas.Cmp.{nat_list_cmp_total, nat_list_eq_equiv}
use Rattle.std.proofs.lemmas.Grind.{common_steps}
use Rattle.std.proofs.lemmas.List.{get_or-map, length-map}
use Rattle.std.proofs.lemmas.List.Elements.{All-cons}
use Rattle.std.proofs.lemmas.List.Sorted.{All-permutation, IsPermutation-map, sum_by-IsPermutation}
use Rattle.std.proofs.lemmas.List.Sums.{AllPass-from_list_all, sum_by-cons}
use Rattle.std.proofs.lemmas.Map.Text.{is_eq-slice_cmp}
use Rattle.jp_tally.specs.Counting.{ascends, entries_of_ranked, is_below, is_entry, weight}
use Rattle.jp_tally.specs.declared.ranked.Ranked.{Ranked}
use Rattle.jp_tally.specs.Tallies.{Entry, IsTally, entries_with, entry_cmp, times}
use Rattle.jp_tally.proofs.Ascending.{both, order}
use Rattle.jp_tally.proofs.Weights.{weight-cons}

-- an entry with a row counts once
abbrev mark : List ℕ → Entry → ℕ
mark row e = cond (bytes_eq row e.row) 1 0

with-cons : (row : List ℕ) (e : Entry) (more : List Entry) → entries_with row (e ∷ more) ≡ mark row e + entries_with row more
with-cons row e more = sum_by-cons (mark row) e more

less_is : (o : Ordering) → is_lt o ≡ true → o ≡ Less
less_is Less h = refl
less_is Equal h = absurd (grind arith)
less_is Greater h = absurd (grind arith)

less_other : (o : Ordering) → o ≡ Less → is_eq o ≡ false
less_other Less h = refl
less_other Equal h = absurd (grind arith)
less_other Greater h = refl

-- a row that is below the first of rows that ascend has no entry among them
none_above : (row : List ℕ) (entries : List Entry) → is_below row entries ≡ true → ascends entries ≡ true → (entries_with row entries ≡ 0) × (weight row entries ≡ 0)
none_above row [] h up = (refl, refl)
none_above row (e ∷ more) h up =
    let parts = both (is_below e.row more) (ascends more) up in
    let less : order row e.row ≡ Less = less_is _ h in
    let other : bytes_eq row e.row ≡ false = sym (is_eq-slice_cmp row e.row) ∙ less_other _ less in
    let later = none_above row more (further more parts.0) parts.1 in
    let with_one : entries_with row (e ∷ more) ≡ 0 + entries_with row more = with-cons row e more ∙ ap (λ t. cond t 1 0 + entries_with row more) other in
    let weighed : weight row (e ∷ more) ≡ 0 + weight row more = weight-cons row e more ∙ ap (λ t. cond t e.count 0 + weight row more) other in
    (omega (arith, with_one, later.0), omega (arith, weighed, later.1))
  where
    further : (more : List Entry) → is_below e.row more ≡ true → is_below row more ≡ true
    further [] g = refl
    further (next ∷ rest) g = ap is_lt (nat_list_cmp_total.trans row e.row next.row (less_is _ h) (less_is _ g))

-- of rows that ascend each has one entry, which has its count
pub once_each : (row : List ℕ) (entries : List Entry) → list_all is_entry entries ≡ true → ascends entries ≡ true → entries_with row entries ≡ min 1 (weight row entries)
once_each row [] are up = refl
once_each row (e ∷ more) are up =
    let parts = both (is_below e.row more) (ascends more) up in
    let each = both (is_entry e) (list_all is_entry more) are in
    let counted : 0 < e.count = let test = each.0 in grind (arith, common_steps) in
    elim (bytes_eq row e.row) as (λ t. bytes_eq row e.row ≡ t → entries_with row (e ∷ more) ≡ min 1 (weight row (e ∷ more))) [
      | true ↦ λ same.
          let is : row ≡ e.row = same_text row e.row (sym same) in
          let none = none_above e.row more parts.0 parts.1 in
          let left : entries_with row (e ∷ more) ≡ 1 + entries_with row more = with-cons row e more ∙ ap (λ t. cond t 1 0 + entries_with row more) same in
          let right : weight row (e ∷ more) ≡ e.count + weight row more = weight-cons row e more ∙ ap (λ t. cond t e.count 0 + weight row more) same in
          let no_more : entries_with row more ≡ 0 = ap (λ r. entries_with r more) is ∙ none.0 in
          omega arith
      | false ↦ λ other.
          let later = once_each row more each.1 parts.1 in
          let left : entries_with row (e ∷ more) ≡ 0 + entries_with row more = with-cons row e more ∙ ap (λ t. cond t 1 0 + entries_with row more) other in
          let right : weight row (e ∷ more) ≡ 0 + weight row more = weight-cons row e more ∙ ap (λ t. cond t e.count 0 + weight row more) other in
          omega arith
    ] refl

abbrev pub entry_of : Ranked → Entry
entry_of r = record { row = r.row.now; count = r.count.0 }

pub ranked_moved : (entries : List Entry) (listed sorted : List Ranked) → entries_of_ranked listed ≡ entries → IsPermutation listed sorted → IsPermutation entries (entries_of_ranked sorted)
ranked_moved entries listed sorted is moved = subst (λ l. IsPermutation l (entries_of_ranked sorted)) is (IsPermutation-map entry_of listed sorted moved)

-- the order of ranked rows is that of their entries
pub ranked_in_order : (rows : List Ranked) → IsSorted (λ a b. entry_cmp (entry_of a) (entry_of b)) rows → IsSorted entry_cmp (entries_of_ranked rows)
ranked_in_order [] h k d low l = absurd (omega arith)
ranked_in_order (first ∷ more) h k d low l =
    let rows = first ∷ more in
    let long : length (entries_of_ranked rows) ≡ length rows = length-map rows entry_of in
    let here : get_or (entries_of_ranked rows) k d ≡ entry_of (get_or rows k first) = get_or-map entry_of rows k first d (omega arith) in
    let next : get_or (entries_of_ranked rows) (k + 1) d ≡ entry_of (get_or rows (k + 1) first) = get_or-map entry_of rows (k + 1) first d (omega arith) in
    ap (λ e. is_lt (entry_cmp e (get_or (entries_of_ranked rows) k d))) next
    ∙ (ap (λ e. is_lt (entry_cmp (entry_of (get_or rows (k + 1) first)) e)) here ∙ h k first (omega arith) (omega arith))

is_positive : (e : Entry) → is_entry e ≡ true → 0 < e.count
is_positive e h = grind (arith, common_steps)

-- each entry of rows that ascend has the count of its row
own_counts : (entries : List Entry) → list_all is_entry entries ≡ true → ascends entries ≡ true → All (λ (e : Entry). e.count ≡ weight e.row entries) entries
own_counts [] are up = λ k d l. absurd (omega arith)
own_counts (e ∷ more) are up =
    let parts = both (is_below e.row more) (ascends more) up in
    let each = both (is_entry e) (list_all is_entry more) are in
    let none = none_above e.row more parts.0 parts.1 in
    let own : weight e.row (e ∷ more) ≡ e.count + weight e.row more = weight-cons e.row e more ∙ ap (λ t. cond t e.count 0 + weight e.row more) (nat_list_eq_equiv.refl e.row) in
    All-cons (λ (x : Entry). x.count ≡ weight x.row (e ∷ more)) e more (omega (arith, own, none.1)) (others each.1 none.1 (own_counts more each.1 parts.1))
  where
    others : list_all is_entry more ≡ true → weight e.row more ≡ 0 → All (λ (x : Entry). x.count ≡ weight x.row more) more → All (λ (x : Entry). x.count ≡ weight x.row (e ∷ more)) more
    others all none h k d l =
        let x = get_or more k d in
        elim (bytes_eq x.row e.row) as (λ t. bytes_eq x.row e.row ≡ t → x.count ≡ weight x.row (e ∷ more)) [
          | true ↦ λ same.
              let zero : x.count ≡ 0 = h k d l ∙ (ap (λ r. weight r more) (same_text x.row e.row (sym same)) ∙ none) in
              let positive : 0 < x.count = is_positive x (AllPass-from_list_all is_entry more all k d l) in
              absurd (omega arith)
          | false ↦ λ other.
              let weighed : weight x.row (e ∷ more) ≡ 0 + weight x.row more = weight-cons x.row e more ∙ ap (λ t. cond t e.count 0 + weight x.row more) other in
              let before = h k d l in omega (arith, weighed, before)
        ] refl

-- entries of rows that ascend, with the counts of rows that came, are the tally of these rows once they are in its order
pub is_tally : (rows : List (List ℕ)) (entries ranked : List Entry) → list_all is_entry entries ≡ true → ascends entries ≡ true
    → ((row : List ℕ) → weight row entries ≡ times row rows) → IsPermutation entries ranked → IsSorted entry_cmp ranked → IsTally rows ranked
is_tally rows entries ranked are up weights moved sorted = record {
  counts = All-permutation (λ (e : Entry). e.count ≡ times e.row rows) entries ranked moved (λ k d l. own_counts entries are up k d l ∙ weights (get_or entries k d).row);
  once = λ row. sum_by-IsPermutation (mark row) entries ranked moved ∙ (once_each row entries are up ∙ ap (min 1) (weights row));
  order = sorted;
}

-- a text of entries is one of a tally, where they are one
pub told_tally : {V E : Type 0} (items : V → List ℕ) (r : Result V E) (P : List Entry → Type 0) (f : List Entry → List ℕ) (entries : List Entry) → P entries
    → IfOk r (λ v. items v ≡ f entries) → IfOk r (λ v. (tally : List Entry) × P tally × (items v ≡ f tally))
told_tally items (Ok v) P f entries p h = (entries, p, h)
told_tally items (Err e) P f entries p h = h
