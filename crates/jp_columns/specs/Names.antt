-- Columns by their names, and their order.
use Rattle.std.specs.Prelude.{◌≡◌, ◌<◌, ℕ, All, List, [], get_or, length, nat_eq, true, map, chars, String, string_bytes}
use Rattle.std.specs.declared.alloc.Global.{Global}
use Rattle.std.specs.Cmp.Lexicographic.{slice_cmp}
use Rattle.std.specs.List.{list_any}
use Rattle.std.specs.List.Sorted.{IsSortedBy}
use Rattle.std.specs.Ordering.{is_lt, nat_cmp}
use Rattle.std.specs.declared.cmp.Ordering.{Ordering}

-- a text, scalar by scalar
abbrev pub text_of : String Global → List ℕ
text_of text = chars (string_bytes text)

-- the name of a column, and the empty one where there is no such column
abbrev pub name_at : List (String Global) → ℕ → List ℕ
name_at names column = get_or (map text_of names) column []

-- the order of two columns: that of their names, scalar by scalar
abbrev pub column_order : List (String Global) → ℕ → ℕ → Ordering
column_order names column other = slice_cmp nat_cmp (name_at names column) (name_at names other)

-- no column has a name that comes before that of the column in front of it
abbrev pub Ascend : List (String Global) → List ℕ → Type 0
Ascend names columns = IsSortedBy (λ column other. is_lt (column_order names column other)) columns

-- each column is one of these
abbrev pub AreAll : List (String Global) → List ℕ → Type 0
AreAll names columns = (column : ℕ) → column < length names → list_any (nat_eq column) columns ≡ true

-- and there are no others
abbrev pub AreColumns : List (String Global) → List ℕ → Type 0
AreColumns names columns = All (λ column. column < length names) columns
