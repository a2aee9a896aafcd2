-- Rows have one tally: lists in one order that have the same entries are the same.
use Rattle.std.proofs.Common.{inl, inr, ◌≡◌, ◌∙◌, ℕ, List, [], ◌∷◌, ◌+◌, get_or, ap, refl, sym, subst, arith, Bool, true, false, cond}
use Rattle.std.specs.Prelude.{◌⊎◌, suc, All, count_by, ◌==◌, ◌&&◌}
use Rattle.std.specs.List.Sorted.{IsPermutation, IsSorted}
use Rattle.std.specs.Str.{bytes_eq}
use Rattle.std.specs.Cmp.{IsTotalOrder}
use Rattle.std.specs.Cmp.Lexicographic.{same_text, slice_cmp}
use Rattle.std.specs.Ordering.{is_eq, is_lt, nat_cmp, ordering_reverse, ordering_then}
use Rattle.std.specs.declared.cmp.Ordering.{Ordering}
use Rattle.std.specs.declared.cmp.Ordering.TheVariants.{Less, Equal, Greater}
use Rattle.std.proofs.lemmas.Cmp.{back_total, nat_cmp_total, nat_list_cmp_total, on_total, ranked, then_total, tied_itself, alike_right}
use Rattle.std.proofs.lemmas.Bool.Decides.{nat_tests}
use Rattle.std.proofs.lemmas.List.Sorted.{IsPermutation-sym}
use Rattle.std.proofs.lemmas.List.Sums.{sum_by-cons}
use Rattle.std.proofs.lemmas.Map.Text.{is_eq-slice_cmp}
use Rattle.jp_tally.specs.Tallies.{Entry, IsTally, entries_with, entry_cmp, times}
use Rattle.jp_tally.proofs.Ascending.{both}
use Rattle.jp_tally.proofs.Sums.{tally_moved}

pub entry_order : IsTotalOrder entry_cmp
entry_order = then_total (on_total (λ (e : Entry). e.count) (back_total nat_cmp_total)) (on_total (λ (e : Entry). e.row) nat_list_cmp_total)

-- one where it is so, and a number where it is so
abbrev bit : Bool → ℕ
bit t = cond t 1 0

abbrev kept : Bool → ℕ → ℕ
kept t n = cond t n 0

-- how many entries are the same as one
abbrev same : Entry → List Entry → ℕ
same x entries = count_by (λ e. is_eq (entry_cmp x e)) entries

same-cons : (x e : Entry) (more : List Entry) → same x (e ∷ more) ≡ cond (is_eq (entry_cmp x e)) 1 0 + same x more
same-cons x e more = sum_by-cons (λ y. cond (is_eq (entry_cmp x y)) 1 0) e more

-- no entry stands in front of the one before it
abbrev is_behind : Entry → List Entry → Bool
is_behind x [] = true
is_behind x (e ∷ more) = cond (is_lt (entry_cmp e x)) false true

abbrev stand : List Entry → Bool
stand [] = true
stand (e ∷ more) = is_behind e more && stand more

less_not_equal : (o : Ordering) → o ≡ Less → is_eq o ≡ false
less_not_equal Less h = refl
less_not_equal Equal h = absurd (grind arith)
less_not_equal Greater h = refl

not_less : (o : Ordering) → cond (is_lt o) false true ≡ true → is_lt o ≡ false
not_less Less h = absurd (grind arith)
not_less Equal h = refl
not_less Greater h = refl

at_most : (o : Ordering) → is_lt (ordering_reverse o) ≡ false → (o ≡ Less) ⊎ (o ≡ Equal)
at_most Less h = inl refl
at_most Equal h = inr refl
at_most Greater h = absurd (grind arith)

-- what is in front of an entry is in front of the next one, which is not in front of that entry
further : (x e next : Entry) → entry_cmp x e ≡ Less → is_lt (entry_cmp next e) ≡ false → entry_cmp x next ≡ Less
further x e next less up =
    by (at_most (entry_cmp e next) (ap is_lt (sym (entry_order.antisymm next e)) ∙ up))
  where
    by : (entry_cmp e next ≡ Less) ⊎ (entry_cmp e next ≡ Equal) → entry_cmp x next ≡ Less
    by (inl l) = entry_order.trans x e next less l
    by (inr q) = sym (alike_right entry_order e next x q) ∙ less

-- an entry in front of the first is none of them
none_same : (x : Entry) (entries : List Entry) → ((e : Entry) (more : List Entry) → entries ≡ e ∷ more → entry_cmp x e ≡ Less) → stand entries ≡ true → same x entries ≡ 0
none_same x [] less up = refl
none_same x (e ∷ more) less up =
    let parts = both (is_behind e more) (stand more) up in
    let first = less e more refl in
    let here : same x (e ∷ more) ≡ 0 + same x more = same-cons x e more ∙ ap (λ t. cond t 1 0 + same x more) (less_not_equal (entry_cmp x e) first) in
    let rest = none_same x more (λ next others is. further x e next first (not_less _ (subst (λ l. is_behind e l ≡ true) is parts.0))) parts.1 in
    omega (arith, here, rest)

-- the first of entries is among them
own_same : (e : Entry) (more : List Entry) → same e (e ∷ more) ≡ 1 + same e more
own_same e more = same-cons e e more ∙ ap (λ o. cond (is_eq o) 1 0 + same e more) (tied_itself entry_order e)

-- two entries that are the same are equal
same_entry : (x y : Entry) → entry_cmp x y ≡ Equal → x ≡ y
same_entry x y h =
    let parts = then_equal (nat_cmp y.count x.count) (slice_cmp nat_cmp x.row y.row) h in
    let count : x.count ≡ y.count = sym (same_count y.count x.count _ refl parts.0) in
    let row : x.row ≡ y.row = same_text x.row y.row (sym (sym (is_eq-slice_cmp x.row y.row) ∙ ap is_eq parts.1)) in
    ap (λ c. record { row = x.row; count = c }) count ∙ ap (λ r. record { row = r; count = y.count }) row
  where
    then_equal : (o p : Ordering) → ordering_then o p ≡ Equal → (o ≡ Equal) × (p ≡ Equal)
    then_equal Less p g = absurd (grind arith)
    then_equal Equal p g = (refl, g)
    then_equal Greater p g = absurd (grind arith)

    same_count : (a b : ℕ) (o : Ordering) → o ≡ nat_cmp a b → o ≡ Equal → a ≡ b
    same_count a b Less g q = absurd (grind arith)
    same_count a b Equal g q = ranked a b Equal g
    same_count a b Greater g q = absurd (grind arith)

less_back : (o : Ordering) → o ≡ Greater → ordering_reverse o ≡ Less
less_back Less h = absurd (grind arith)
less_back Equal h = absurd (grind arith)
less_back Greater h = refl

-- the first of entries
abbrev first_in : Entry → List Entry → Entry
first_in e [] = e
first_in e (x ∷ more) = x

-- lists in one order that have the same entries are the same
lists_same : (a b : List Entry) → stand a ≡ true → stand b ≡ true → ((x : Entry) → same x a ≡ same x b) → a ≡ b
lists_same [] [] up on h = refl
lists_same [] (f ∷ fs) up on h = let one = h f in let own = own_same f fs in absurd (omega (arith, one, own))
lists_same (e ∷ es) [] up on h = let one = h e in let own = own_same e es in absurd (omega (arith, one, own))
lists_same (e ∷ es) (f ∷ fs) up on h = by (lists_same es fs) (entry_cmp e f) refl
  where
    by : (stand es ≡ true → stand fs ≡ true → ((x : Entry) → same x es ≡ same x fs) → es ≡ fs) → (o : Ordering) → entry_cmp e f ≡ o → e ∷ es ≡ f ∷ fs
    by tails Less less =
        let none : same e (f ∷ fs) ≡ 0 = none_same e (f ∷ fs) (λ g more is. subst (λ (l : List Entry). entry_cmp e (first_in e l) ≡ Less) is less) on in
        let own = own_same e es in let one = h e in absurd (omega (arith, none, own, one))
    by tails Greater greater =
        let less : entry_cmp f e ≡ Less = entry_order.antisymm f e ∙ less_back (entry_cmp e f) greater in
        let none : same f (e ∷ es) ≡ 0 = none_same f (e ∷ es) (λ g more is. subst (λ (l : List Entry). entry_cmp f (first_in e l) ≡ Less) is less) up in
        let own = own_same f fs in let one = h f in absurd (omega (arith, none, own, one))
    by tails Equal equal =
        let is : e ≡ f = same_entry e f equal in
        ap (λ l. e ∷ l) (tails (both (is_behind e es) (stand es) up).1 (both (is_behind f fs) (stand fs) on).1
        (λ x. let left = same-cons x e es in let right = same-cons x f fs in let all = h x in
        let first : bit (is_eq (entry_cmp x e)) ≡ bit (is_eq (entry_cmp x f)) = ap (λ y. bit (is_eq (entry_cmp x y))) is in
        omega (arith, left, right, all, first)))
        ∙ ap (λ y. y ∷ fs) is

-- the order of a tally, one entry after the other
stands : (entries : List Entry) → IsSorted entry_cmp entries → stand entries ≡ true
stands [] h = refl
stands (e ∷ []) h = refl
stands (e ∷ next ∷ more) h =
    let first : is_lt (entry_cmp next e) ≡ false = h 0 e (omega arith) (omega arith) in
    ap (λ t. cond t false true && stand (next ∷ more)) first
    ∙ stands (next ∷ more) (λ k d low l. let behind : suc (k + 1) ≡ suc k + 1 = omega arith in
    subst (λ j. is_lt (entry_cmp (get_or (e ∷ next ∷ more) j d) (get_or (next ∷ more) k d)) ≡ false) (sym behind) (h (suc k) d (omega arith) (omega arith)))

then_is : (o p : Ordering) → is_eq (ordering_then o p) ≡ (is_eq o && is_eq p)
then_is Less p = refl
then_is Equal p = refl
then_is Greater p = refl

counts_are : (a b : ℕ) → is_eq (nat_cmp a b) ≡ (b == a)
counts_are a b = grind (arith, nat_tests)

no_count : (t u : Bool) → bit (t && false) ≡ kept u 0
no_count true true = refl
no_count true false = refl
no_count false true = refl
no_count false false = refl

one_count : (t : Bool) → bit (t && true) ≡ kept t 1
one_count true = refl
one_count false = refl

-- an entry with the count of its row is the same as another where that has the row and the count
is_same : (x e : Entry) (n : ℕ) → (bytes_eq x.row e.row ≡ true → e.count ≡ n) → bit (is_eq (entry_cmp x e)) ≡ kept (x.count == n) (bit (bytes_eq x.row e.row))
is_same x e n h =
    let parts : is_eq (entry_cmp x e) ≡ (is_eq (nat_cmp e.count x.count) && bytes_eq x.row e.row) =
    then_is (nat_cmp e.count x.count) (slice_cmp nat_cmp x.row e.row) ∙ ap (λ t. is_eq (nat_cmp e.count x.count) && t) (is_eq-slice_cmp x.row e.row) in
    ap bit parts
    ∙ (elim (bytes_eq x.row e.row) as (λ t. (t ≡ true → e.count ≡ n) → bit (is_eq (nat_cmp e.count x.count) && t) ≡ kept (x.count == n) (bit t)) [
      | true ↦ λ g. one_count (is_eq (nat_cmp e.count x.count)) ∙ ap (λ t. kept t 1) (ap (λ c. is_eq (nat_cmp c x.count)) (g refl) ∙ counts_are n x.count)
      | false ↦ λ g. no_count (is_eq (nat_cmp e.count x.count)) (x.count == n)
    ]) h

kept_none : (t : Bool) → kept t 0 ≡ 0
kept_none true = refl
kept_none false = refl

kept_sum : (t : Bool) (a b : ℕ) → kept t a + kept t b ≡ kept t (a + b)
kept_sum true a b = refl
kept_sum false a b = refl

-- how many entries are the same as one, where each has the count of its row
same_by_row : (rows : List (List ℕ)) (x : Entry) (tally : List Entry) → All (λ (e : Entry). e.count ≡ times e.row rows) tally
    → same x tally ≡ kept (x.count == times x.row rows) (entries_with x.row tally)
same_by_row rows x [] h = sym (kept_none (x.count == times x.row rows))
same_by_row rows x (e ∷ more) h =
    let is = x.count == times x.row rows in
    let own : e.count ≡ times e.row rows = h 0 e (omega arith) in
    let first = is_same x e (times x.row rows) (λ q. own ∙ ap (λ r. times r rows) (sym (same_text x.row e.row (sym q)))) in
    let rest = same_by_row rows x more (λ k d l. h (suc k) d (omega arith)) in
    let left = same-cons x e more in
    let right = sum_by-cons (λ (y : Entry). bit (bytes_eq x.row y.row)) e more in
    left ∙ (ap (λ n. n + same x more) first ∙ (ap (λ n. kept is (bit (bytes_eq x.row e.row)) + n) rest
    ∙ (kept_sum is (bit (bytes_eq x.row e.row)) (entries_with x.row more) ∙ ap (kept is) (sym right))))

pub one_tally : (rows other : List (List ℕ)) (left right : List Entry) → IsPermutation rows other → IsTally rows left → IsTally other right → left ≡ right
one_tally rows other left right moved one two =
    let here = tally_moved other rows right (IsPermutation-sym rows other moved) two in
    lists_same left right (stands left one.order) (stands right two.order)
    (λ x. same_by_row rows x left one.counts
    ∙ (ap (kept (x.count == times x.row rows)) (one.once x.row ∙ sym (here.once x.row))
    ∙ sym (same_by_row rows x right here.counts)))
