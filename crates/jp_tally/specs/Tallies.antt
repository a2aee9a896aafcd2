-- The tally of rows: each that came once, with how often it came (profile).
use Rattle.std.specs.Prelude.{◌≡◌, ℕ, List, min, count_by, All}
use Rattle.std.specs.Str.{bytes_eq}
use Rattle.std.specs.Cmp.Lexicographic.{slice_cmp}
use Rattle.std.specs.List.Sorted.{IsSorted}
use Rattle.std.specs.Ordering.{nat_cmp, ordering_then}
use Rattle.std.specs.declared.cmp.Ordering.{Ordering}

-- A row, and how often it came.
pub record Entry : Type 0 where
  pub row : List ℕ
  pub count : ℕ

-- how often a row came
abbrev pub times : List ℕ → List (List ℕ) → ℕ
times row rows = count_by (λ other. bytes_eq row other) rows

-- how many entries are those of a row
abbrev pub entries_with : List ℕ → List Entry → ℕ
entries_with row tally = count_by (λ entry. bytes_eq row entry.row) tally

-- the order of entries: the one that came more often is first, and of those that came as often the one of which the row is less,
-- as bytes
abbrev pub entry_cmp : Entry → Entry → Ordering
entry_cmp left right = ordering_then (nat_cmp right.count left.count) (slice_cmp nat_cmp left.row right.row)

-- A tally of rows: each entry has the count of its row, each row that came has one entry and no other row has any, and they
-- stand in order.
pub record IsTally (rows : List (List ℕ)) (tally : List Entry) : Type 0 where
  pub counts : All (λ entry. entry.count ≡ times entry.row rows) tally
  pub once : (row : List ℕ) → entries_with row tally ≡ min 1 (times row rows)
  pub order : IsSorted entry_cmp tally
