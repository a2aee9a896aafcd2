-- Rows that are counted together with entries.
use Rattle.std.proofs.Common.{◌≡◌, ◌∙◌, ℕ, List, [], ◌∷◌, ◌++◌, ◌+◌, ◌<◌, length, get_or, ap, refl, sym, subst, arith, Bool, true, false}
use Rattle.std.specs.Prelude.{suc, not, IfOk, OnErr, OnOk, Result, Ok, Err}
use Rattle.std.specs.List.{list_all}
use Rattle.std.specs.List.Sorted.{IsPermutation}
use Rattle.std.specs.Ordering.{is_lt, nat_cmp, ordering_then}
use Rattle.std.specs.declared.cmp.Ordering.{Ordering}
use Rattle.std.specs.declared.cmp.Ordering.TheVariants.{Less, Equal, Greater}
use Rattle.std.proofs.lemmas.List.Folds.{list_all-append}
use Rattle.std.proofs.lemmas.List.Sorted.{All-permutation, IsPermutation-map, sum_by-IsPermutation}
use Rattle.std.proofs.lemmas.List.Sums.{AllPass-from_list_all, list_all-from_AllPass}
use Rattle.jp_tally.specs.Counting.{HasCounted, entries_of, entries_of_counted, is_entry, joined, weight}
use Rattle.jp_tally.specs.Tallies.{Entry}
use Rattle.jp_tally.specs.declared.counted.Counted.{Counted}
use Rattle.jp_tally.specs.declared.rows.Rows.{Rows}
use Rattle.jp_tally.proofs.Ascending.{and_true, joined_ascends, order, rises}
use Rattle.jp_tally.proofs.Joining.{entry}
use Rattle.jp_tally.proofs.Made.{joined_are}
use Rattle.jp_tally.proofs.Weights.{share, weight-append, weight-joined}

-- no listed row is below the one before it
abbrev pub comes : List Counted → ℕ → ℕ → Counted → Bool
comes rows j k d = is_lt (ordering_then (order (get_or rows j d).row.now (get_or rows k d).row.now) (nat_cmp (get_or rows j d).count (get_or rows k d).count))

abbrev pub IsListedInOrder : List Counted → Type 0
IsListedInOrder rows = (k : ℕ) (d : Counted) → suc k < length rows → comes rows (suc k) k d ≡ false

pub order_from_sort : (rows : List Counted) → ((k : ℕ) (d : Counted) → k + 1 < length rows → comes rows (k + 1) k d ≡ false) → IsListedInOrder rows
order_from_sort rows h k d l = let next : k + 1 ≡ suc k = omega arith in subst (λ j. comes rows j k d ≡ false) next (h k d (omega arith))

first_decides : (o p : Ordering) → is_lt (ordering_then o p) ≡ false → not (is_lt o) ≡ true
first_decides Less p h = absurd (grind arith)
first_decides Equal p h = refl
first_decides Greater p h = refl

pub in_order : (rows : List Counted) → IsListedInOrder rows → rises (entries_of_counted rows) ≡ true
in_order [] h = refl
in_order (first ∷ []) h = refl
in_order (first ∷ next ∷ more) h =
    and_true _ (rises (entries_of_counted (next ∷ more))) (first_decides _ _ (h 0 first (omega arith)))
    (in_order (next ∷ more) (λ k d l. h (suc k) d (omega arith)))

-- the same entries in another order
moved_are : (listed sorted : List Counted) → IsPermutation listed sorted → list_all is_entry (entries_of_counted listed) ≡ true → list_all is_entry (entries_of_counted sorted) ≡ true
moved_are listed sorted moved h =
    let there = IsPermutation-map (λ (c : Counted). entry c.row.now c.count) listed sorted moved in
    list_all-from_AllPass is_entry (entries_of_counted sorted) (All-permutation (λ (e : Entry). is_entry e ≡ true) _ _ there (AllPass-from_list_all is_entry (entries_of_counted listed) h))

moved_weight : (row : List ℕ) (listed sorted : List Counted) → IsPermutation listed sorted → weight row (entries_of_counted sorted) ≡ weight row (entries_of_counted listed)
moved_weight row listed sorted moved =
    sum_by-IsPermutation (share row) _ _ (IsPermutation-map (λ (c : Counted). entry c.row.now c.count) listed sorted moved)

-- entries that are listed, sorted and joined
pub counted_together : (before fresh : List Entry) (listed sorted : List Counted) (kept : List Entry) → list_all is_entry before ≡ true → list_all is_entry fresh ≡ true
    → entries_of_counted listed ≡ before ++ fresh → IsPermutation listed sorted → IsListedInOrder sorted → kept ≡ joined (entries_of_counted sorted) → HasCounted before fresh kept
counted_together before fresh listed sorted kept are came is moved up same =
    let all : list_all is_entry (entries_of_counted listed) ≡ true = ap (list_all is_entry) is ∙ (list_all-append is_entry before fresh ∙ and_true _ _ are came) in
    subst (HasCounted before fresh) (sym same) (record {
      weights = λ row. weight-joined row (entries_of_counted sorted) ∙ (moved_weight row listed sorted moved ∙ (ap (weight row) is ∙ weight-append row before fresh));
      entries = joined_are (entries_of_counted sorted) (moved_are listed sorted moved all);
      order = joined_ascends (entries_of_counted sorted) (in_order sorted up);
    })

-- one more row that came once, or none
pub still_came : {E : Type 0} (result : Result Unit E) (came : List ℕ) (entries more : List Entry) → OnOk result (more ≡ entries ++ entry came 1 ∷ []) → OnErr result (more ≡ entries)
    → list_all is_entry entries ≡ true → list_all is_entry more ≡ true
still_came (Ok done) came entries more is same are = ap (list_all is_entry) is ∙ (list_all-append is_entry entries (entry came 1 ∷ []) ∙ and_true _ _ are refl)
still_came (Err fault) came entries more is same are = ap (list_all is_entry) same ∙ are

-- what holds of entries that are given holds of rows that give them
pub given_by : {E : Type 0} (result : Result Rows E) (entries : List Entry) (P : List Entry → Type 0) → IfOk result (λ rows. entries_of rows ≡ entries)
    → ((given : List Entry) → given ≡ entries → P given) → IfOk result (λ rows. P (entries_of rows))
given_by (Ok rows) entries P is h = h (entries_of rows) is
given_by (Err fault) entries P is h = tt
