-- Where scalars are in a text.
use Rattle.std.specs.Prelude.{ℕ, ◌≡◌, ◌-◌, ◌<◌, ◌≤◌, ◌↔◌, List, length, get_or, Option, Some, None}
use Rattle.jp_iregexp.specs.declared.positions.PositionSet.{PositionSet}
use Rattle.jp_iregexp.specs.Positions.{Has}

-- the set has the positions after each such scalar, and no others
abbrev pub IsAfterEach : List ℕ → ℕ → PositionSet → Type 0
IsAfterEach text scalar set = (q : ℕ) → Has set q ↔ (0 < q × q ≤ length text × get_or text (q - 1) 0 ≡ scalar)

-- so has the row of each scalar that has one
abbrev pub AreAfterEach : List ℕ → List (Option PositionSet) → Type 0
AreAfterEach text rows = (scalar : ℕ) (set : PositionSet) → get_or rows scalar None ≡ Some set → IsAfterEach text scalar set
