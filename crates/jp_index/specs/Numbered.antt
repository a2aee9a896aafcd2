-- Lines by their numbers.
use Rattle.std.specs.Prelude.{◌≡◌, ℕ, List, [], ◌∷◌, ◌++◌, filter, nat_lt, Bool, Option, Some, None, if◌then◌else◌}

-- some numbers with this one among them, or without it
abbrev pub with_number : ℕ → Bool → List ℕ → List ℕ
with_number n is_in numbers = filter (λ k. nat_lt k n) numbers ++ (if is_in then n ∷ [] else []) ++ filter (λ k. nat_lt n k) numbers

-- those of some numbers that are after one
abbrev pub numbers_behind : ℕ → List ℕ → List ℕ
numbers_behind n numbers = filter (λ k. nat_lt n k) numbers

-- the first of some numbers after one, and none where there is none
abbrev pub IsFirstBehind : ℕ → List ℕ → Option ℕ → Type 0
IsFirstBehind n numbers None = numbers_behind n numbers ≡ []
IsFirstBehind n numbers (Some first) = numbers_behind n numbers ≡ first ∷ numbers_behind first numbers
