-- Entries that are joined where they are of one row.
use Rattle.std.proofs.Common.{◌≡◌, ◌∙◌, ℕ, List, [], ◌∷◌, ◌+◌, ◌<◌, drop, length, get_or, ap, sym, arith, true, false, if◌then◌else◌}
use Rattle.std.specs.Prelude.{suc}
use Rattle.std.specs.Str.{bytes_eq}
use Rattle.std.specs.Cmp.Lexicographic.{same_text}
use Rattle.std.proofs.Math.Seq.{drop-cons}
use Rattle.std.proofs.lemmas.Cmp.{nat_list_eq_equiv}
use Rattle.jp_tally.specs.Counting.{entries_of_counted, joined, lead}
use Rattle.jp_tally.specs.Tallies.{Entry}
use Rattle.jp_tally.specs.declared.counted.Counted.{Counted}

abbrev pub entry : List ℕ → ℕ → Entry
entry row count = record { row = row; count = count }

-- two entries of one row are joined before or after what follows
pub lead_same : (row : List ℕ) (a b : ℕ) (more : List Entry) → lead (entry row a) (lead (entry row b) more) ≡ lead (entry row (a + b)) more
lead_same row a b [] = ap (λ t. if t then entry row (a + b) ∷ [] else entry row a ∷ entry row b ∷ []) (nat_list_eq_equiv.refl row)
lead_same row a b (next ∷ more) =
    elim (bytes_eq next.row row) as (λ t. lead (entry row a) (if t then entry row (b + next.count) ∷ more else entry row b ∷ next ∷ more)
    ≡ (if t then entry row (a + b + next.count) ∷ more else entry row (a + b) ∷ next ∷ more)) [
      | true ↦ ap (λ t. if t then entry row (a + (b + next.count)) ∷ more else entry row a ∷ entry row (b + next.count) ∷ more) (nat_list_eq_equiv.refl row)
          ∙ ap (λ n. entry row n ∷ more) (omega arith)
      | false ↦ ap (λ t. if t then entry row (a + b) ∷ next ∷ more else entry row a ∷ entry row b ∷ next ∷ more) (nat_list_eq_equiv.refl row)
    ]

-- an entry of another row stays in front
pub lead_other : (first next : Entry) (more : List Entry) → bytes_eq next.row first.row ≡ false → lead first (lead next more) ≡ first ∷ lead next more
lead_other first next [] h = ap (λ t. if t then entry first.row (first.count + next.count) ∷ [] else first ∷ next ∷ []) h
lead_other first next (third ∷ more) h =
    elim (bytes_eq third.row next.row) as (λ t. lead first (if t then entry next.row (next.count + third.count) ∷ more else next ∷ third ∷ more)
    ≡ first ∷ (if t then entry next.row (next.count + third.count) ∷ more else next ∷ third ∷ more)) [
      | true ↦ ap (λ t. if t then entry first.row (first.count + (next.count + third.count)) ∷ more else first ∷ entry next.row (next.count + third.count) ∷ more) h
      | false ↦ ap (λ t. if t then entry first.row (first.count + next.count) ∷ third ∷ more else first ∷ next ∷ third ∷ more) h
    ]

-- the next of the listed rows
next_of : (others : List Counted) (i : ℕ) (d : Counted) → i < length others
    → entries_of_counted (drop i others) ≡ entry (get_or others i d).row.now (get_or others i d).count ∷ entries_of_counted (drop (i + 1) others)
next_of others i d h =
    let behind : suc i ≡ i + 1 = omega arith in
    ap entries_of_counted (drop-cons others i d h)
    ∙ ap (λ n. entry (get_or others i d).row.now (get_or others i d).count ∷ entries_of_counted (drop n others)) behind

-- a turn that joins the next row with the one before it
pub turn_same : (others : List Counted) (i : ℕ) (d : Counted) (row : List ℕ) (count total : ℕ) → i < length others → bytes_eq (get_or others i d).row.now row ≡ true
    → total ≡ count + (get_or others i d).count
    → lead (entry row count) (joined (entries_of_counted (drop i others))) ≡ lead (entry row total) (joined (entries_of_counted (drop (i + 1) others)))
turn_same others i d row count total h same is =
    let next = get_or others i d in let more = joined (entries_of_counted (drop (i + 1) others)) in
    ap (λ l. lead (entry row count) (joined l)) (next_of others i d h)
    ∙ (ap (λ r. lead (entry row count) (lead (entry r next.count) more)) (same_text next.row.now row (sym same))
    ∙ (lead_same row count next.count more ∙ ap (λ n. lead (entry row n) more) (sym is)))

-- a turn that keeps the row before the next one
pub turn_other : (others : List Counted) (i : ℕ) (d : Counted) (row : List ℕ) (count : ℕ) → i < length others → bytes_eq (get_or others i d).row.now row ≡ false
    → lead (entry row count) (joined (entries_of_counted (drop i others)))
    ≡ entry row count ∷ lead (entry (get_or others i d).row.now (get_or others i d).count) (joined (entries_of_counted (drop (i + 1) others)))
turn_other others i d row count h other =
    let next = get_or others i d in
    ap (λ l. lead (entry row count) (joined l)) (next_of others i d h)
    ∙ lead_other (entry row count) (entry next.row.now next.count) (joined (entries_of_counted (drop (i + 1) others))) other
