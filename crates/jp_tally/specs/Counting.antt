-- Rows that are counted together.
use Rattle.std.specs.Prelude.{true, ◌≡◌, ℕ, ◌+◌, List, [], ◌∷◌, drop, map, sum_by, take, Bool, ◌&&◌, nat_lt, cond, if◌then◌else◌}
use Rattle.std.specs.List.{list_all}
use Rattle.std.specs.Str.{bytes_eq}
use Rattle.std.specs.Cmp.Lexicographic.{slice_cmp}
use Rattle.std.specs.Ordering.{is_lt, nat_cmp}
use Rattle.jp_tally.specs.Tallies.{Entry}
use Rattle.jp_tally.specs.declared.counted.Counted.{Counted}
use Rattle.jp_tally.specs.declared.ranked.Ranked.{Ranked}
use Rattle.jp_tally.specs.declared.rows.Rows.{Rows}
use Rattle.jp_tally.specs.declared.rows.Run.{Run}

-- the entries of rows that are listed
abbrev pub entries_of_counted : List Counted → List Entry
entries_of_counted rows = map (λ c. record { row = c.row.now; count = c.count }) rows

abbrev pub entries_of_ranked : List Ranked → List Entry
entries_of_ranked rows = map (λ r. record { row = r.row.now; count = r.count.0 }) rows

-- the entries of a text of rows, by how many bytes each row has and how often it came
abbrev pub entries_in : List ℕ → List Run → List Entry
entries_in text [] = []
entries_in text (run ∷ runs) = record { row = take run.len text; count = run.count } ∷ entries_in (drop run.len text) runs

abbrev pub entries_of : Rows → List Entry
entries_of rows = entries_in rows.text.items rows.runs.items

-- an entry in front of others: joined with the first of them where both are of one row
abbrev pub lead : Entry → List Entry → List Entry
lead entry [] = entry ∷ []
lead entry (next ∷ more) =
    if bytes_eq next.row entry.row then record { row = entry.row; count = entry.count + next.count } ∷ more
    else entry ∷ next ∷ more

-- entries, where those side by side are joined if they are of one row
abbrev pub joined : List Entry → List Entry
joined [] = []
joined (entry ∷ more) = lead entry (joined more)

-- how often a row came, by entries among which several may be of one row
abbrev pub weight : List ℕ → List Entry → ℕ
weight row entries = sum_by (λ entry. cond (bytes_eq row entry.row) entry.count 0) entries

-- an entry of a row that came
abbrev pub is_entry : Entry → Bool
is_entry entry = nat_lt 0 entry.count

-- the rows of entries ascend, as bytes, so that no two are the same
abbrev pub is_below : List ℕ → List Entry → Bool
is_below row [] = true
is_below row (next ∷ more) = is_lt (slice_cmp nat_cmp row next.row)

abbrev pub ascends : List Entry → Bool
ascends [] = true
ascends (entry ∷ more) = is_below entry.row more && ascends more

-- Entries of rows that ascend have the counts of two lists of entries.
pub record HasCounted (before fresh after : List Entry) : Type 0 where
  pub weights : (row : List ℕ) → weight row after ≡ weight row before + weight row fresh
  pub entries : list_all is_entry after ≡ true
  pub order : ascends after ≡ true
