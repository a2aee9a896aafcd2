-- What a tally stands for.
use Rattle.std.specs.Prelude.{◌≡◌, ℕ, ◌+◌, List, [], ◌∷◌}
use Rattle.jp_sink.specs.Events.{Event}
use Rattle.jp_tally.specs.Counting.{entries_of, weight}
use Rattle.jp_tally.specs.Rows.{rows_told}
use Rattle.jp_tally.specs.Tallies.{times}
use Rattle.jp_tally.specs.declared.tally.Tally.{Tally}

-- how often a row came, by what is kept and what came since
abbrev pub times_of : Tally → List ℕ → ℕ
times_of tally row = weight row (entries_of tally.kept) + weight row (entries_of tally.fresh)

-- Each row came as often as it was told.
abbrev pub Stands : Tally → List Event → Type 0
Stands tally told = (row : List ℕ) → times_of tally row ≡ times row (rows_told told)

abbrev pub SameCounts : (old new : Tally) → Type 0
SameCounts old new = (row : List ℕ) → times_of new row ≡ times_of old row

-- one more row came
abbrev pub CountsRow : (old new : Tally) → List ℕ → Type 0
CountsRow old new came = (row : List ℕ) → times_of new row ≡ times_of old row + times row (came ∷ [])
