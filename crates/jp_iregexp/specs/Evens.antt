-- Texts of one length, one after another.
use Rattle.std.specs.Prelude.{ℕ, ◌≡◌, ◌≤◌, ◌<◌, ◌*◌, ◌-◌, ◌↔◌, List, length}
use Rattle.jp_iregexp.specs.declared.positions.PositionSet.{PositionSet}
use Rattle.jp_iregexp.specs.Positions.{Has}

-- each member has this length
abbrev pub HaveLength : (List ℕ → Type 0) → ℕ → Type 0
HaveLength Member n = (x : List ℕ) → Member x → length x ≡ n

-- the end of each of `count` steps of this length, where the last one ends at `q`, is in the set
abbrev pub IsRun : (once : PositionSet) (step count q : ℕ) → Type 0
IsRun once step count q = (j : ℕ) → j < count → j * step ≤ q × Has once (q - j * step)

-- the set has exactly the ends of such runs
abbrev pub AreRuns : (once : PositionSet) (step count : ℕ) → PositionSet → Type 0
AreRuns once step count set = (q : ℕ) → Has set q ↔ IsRun once step count q
