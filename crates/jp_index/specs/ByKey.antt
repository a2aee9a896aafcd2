-- Lines in order of the keys of their values.
use Rattle.std.specs.Prelude.{◌≡◌, ℕ, ◌==◌, true, false, List, All, Contains, Option, None, if◌then◌else◌}
use Rattle.std.specs.List.{AllPairs}
use Rattle.std.specs.List.Sorted.{IsPartitionPoint}
use Rattle.std.specs.Option.{option_cmp, is_some}
use Rattle.std.specs.Ordering.{is_lt, nat_cmp, ordering_then}
use Rattle.std.specs.declared.cmp.Ordering.{Ordering}
use Rattle.std.specs.declared.cmp.Ordering.TheVariants.{Less}
use Rattle.jp_values.specs.Keys.{key_order}
use Rattle.jp_values.specs.declared.key.Key.{Key}

-- lines by their keys, and by their numbers where the keys are the same
abbrev pub line_order : (ℕ → Option Key) → ℕ → ℕ → Ordering
line_order keys a b = ordering_then (option_cmp key_order (keys a) (keys b)) (nat_cmp a b)

-- each line comes before those after it
abbrev pub Ascend : (ℕ → Option Key) → List ℕ → Type 0
Ascend keys lines = AllPairs (λ a b. line_order keys a b ≡ Less) lines

-- these are the lines that have a key, in order
pub record AreByKey (keys : ℕ → Option Key) (lines : List ℕ) : Type 0 where
  pub ascend : Ascend keys lines
  pub have_keys : All (λ a. is_some (keys a) ≡ true) lines
  pub are_all : (a : ℕ) → is_some (keys a) ≡ true → Contains lines a

-- the keys with that line's left out
abbrev pub but : ℕ → (ℕ → Option Key) → ℕ → Option Key
but line keys a = if a == line then None else keys a

-- the first `i` of the lines stand in front of a line, and the others do not
abbrev pub IsPositionOf : (ℕ → Option Key) → ℕ → List ℕ → ℕ → Type 0
IsPositionOf keys line lines i = IsPartitionPoint (λ a. is_lt (line_order keys a line) ≡ true) (λ a. is_lt (line_order keys a line) ≡ false) lines i
