-- Rows that are kept by their numbers.
use Rattle.std.specs.Prelude.{ℕ, ◌≡◌, ◌⊎◌, List, get_or, Option, Some, None}

-- the new rows are the old ones, and this one with this number
abbrev pub IsAdded : {A : Type 0} → ℕ → A → (old new : List (Option A)) → Type 0
IsAdded number row old new = (n : ℕ) (other : _) → get_or new n None ≡ Some other → (n ≡ number × other ≡ row) ⊎ (get_or old n None ≡ Some other)
