-- What is kept of lines, cell by cell.
use Rattle.std.specs.Prelude.{ℕ, zero, suc, Bool, List, slice_index_or, Option, Some, None}
use Rattle.std.specs.Option.{is_some}
use Rattle.jp_values.specs.declared.key.Key.{Key}
use Rattle.jp_index.specs.declared.slot.Slot.{Slot}

-- the key that is kept of a line, where there is one
abbrev pub cell_key : Option Slot → Option Key
cell_key None = None
cell_key (Some slot) = slot.key

-- the same of the line of this number; the first has number 1
abbrev pub key_at : List (Option Slot) → ℕ → Option Key
key_at cells zero = None
key_at cells (suc i) = cell_key (slice_index_or cells i None)

-- there is a key
abbrev pub has_key : Option Slot → Bool
has_key cell = is_some (cell_key cell)
