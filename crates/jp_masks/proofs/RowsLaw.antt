-- The positions of rows are there, also when more come.
use Rattle.std.proofs.Common.{◌≡◌, ℕ, zero, suc, ◌<◌, ◌≤◌, nat_le, Bool, true, false, ◌&&◌, List, [], ◌∷◌, ◌++◌, length, get_or, cond, refl, sym, ap, ap₂, ◌∙◌, arith, subst, Result, Ok, Err}
use Rattle.std.proofs.lemmas.Bool.Decides.{nat_tests}
use Rattle.std.proofs.lemmas.List.Folds.{list_all-append}
use Rattle.std.proofs.lemmas.List.{length-append}
use Rattle.std.specs.Result.{OnOk, OnErr}
use Rattle.jp_masks.specs.declared.row.Row.{Row}
use Rattle.jp_masks.specs.Rows.{rows_within}

pub both : (a b : Bool) → (a && b) ≡ true → (a ≡ true) × (b ≡ true)
both true b h = (refl, h)
both false b h = absurd (cc)

both_true : (a b : Bool) → a ≡ true → b ≡ true → (a && b) ≡ true
both_true a b e f = ap₂ (λ (x y : Bool). x && y) e f

le_true : (a b : ℕ) → a ≤ b → nat_le a b ≡ true
le_true a b h = grind (arith, nat_tests)

true_le : (a b : ℕ) → nat_le a b ≡ true → a ≤ b
true_le a b h = grind (arith, nat_tests, h)

-- one row among them
pub row_at : (rows : List Row) (n k : ℕ) (d : Row) → rows_within rows n ≡ true → k < length rows → ((get_or rows k d).positions_start ≤ (get_or rows k d).positions_end) × ((get_or rows k d).positions_end ≤ n)
unfolding rows_within
row_at [] n k d h l = absurd (omega arith)
row_at (row ∷ rows) n zero d h l =
    let here = both (nat_le row.positions_start row.positions_end && nat_le row.positions_end n) (rows_within rows n) h in
    let parts = both (nat_le row.positions_start row.positions_end) (nat_le row.positions_end n) here.0 in
    (true_le row.positions_start row.positions_end parts.0, true_le row.positions_end n parts.1)
row_at (row ∷ rows) n (suc k) d h l = row_at rows n k d (both (nat_le row.positions_start row.positions_end && nat_le row.positions_end n) (rows_within rows n) h).1 (omega arith)

pub row_there : (rows : List Row) (n k : ℕ) (row : Row) → rows_within rows n ≡ true → k < length rows → row ≡ get_or rows k row → (row.positions_start ≤ row.positions_end) × (row.positions_end ≤ n)
row_there rows n k row h l e = subst (λ (r : Row). (r.positions_start ≤ r.positions_end) × (r.positions_end ≤ n)) (sym e) (row_at rows n k row h l)

-- more positions
pub more_positions : (rows : List Row) (n m : ℕ) → n ≤ m → rows_within rows n ≡ true → rows_within rows m ≡ true
unfolding rows_within
more_positions [] n m l h = refl
more_positions (row ∷ rows) n m l h =
    let here = both (nat_le row.positions_start row.positions_end && nat_le row.positions_end n) (rows_within rows n) h in
    let parts = both (nat_le row.positions_start row.positions_end) (nat_le row.positions_end n) here.0 in
    let low = true_le row.positions_end n parts.1 in
    both_true (nat_le row.positions_start row.positions_end && nat_le row.positions_end m) (rows_within rows m)
    (both_true (nat_le row.positions_start row.positions_end) (nat_le row.positions_end m) parts.0 (le_true row.positions_end m (omega arith))) (more_positions rows n m l here.1)

-- one more row
pub more_row : (rows : List Row) (n start end from to : ℕ) → from ≤ to → to ≤ n → rows_within rows n ≡ true
    → rows_within (rows ++ (let row : Row = record { start = start; end = end; positions_start = from; positions_end = to } in row) ∷ []) n ≡ true
unfolding rows_within
more_row rows n start end from to l w h =
    let row : Row = record { start = start; end = end; positions_start = from; positions_end = to } in
    list_all-append (λ (r : Row). nat_le r.positions_start r.positions_end && nat_le r.positions_end n) rows (row ∷ [])
    ∙ both_true (rows_within rows n) (rows_within (row ∷ []) n) h
    (both_true (nat_le from to && nat_le to n) true (both_true (nat_le from to) (nat_le to n) (le_true from to l) (le_true to n w)) refl)

-- a row that comes behind the same rows
pub rows_pushed : (rows same after : List Row) (n start end from to : ℕ) → same ≡ rows → after ≡ same ++ (let row : Row = record { start = start; end = end; positions_start = from; positions_end = to } in row) ∷ []
    → from ≤ to → to ≤ n → rows_within rows n ≡ true → rows_within after n ≡ true
rows_pushed rows same after n start end from to s e l w h = ap (λ r. rows_within r n) e ∙ more_row same n start end from to l w (ap (λ r. rows_within r n) s ∙ h)

-- positions that come, or do not
pub positions_came : {T E : Type 0} (r : Result T E) (positions more after : List ℕ) → OnOk r (after ≡ positions ++ more) → OnErr r (after ≡ positions) → length positions ≤ length after
positions_came (Ok x) positions more after ok err = omega (arith, ap length ok, length-append positions more)
positions_came (Err e) positions more after ok err = omega (arith, ap length err)
