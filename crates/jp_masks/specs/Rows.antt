-- The rows of lines, and that their positions are there.
use Rattle.std.specs.Prelude.{ℕ, Bool, ◌&&◌, nat_le, List}
use Rattle.std.specs.List.{list_all}
use Rattle.jp_masks.specs.declared.row.Row.{Row}

-- the positions of each row are among the first n
unfoldable pub rows_within : List Row → ℕ → Bool
rows_within rows n = list_all (λ (row : Row). nat_le row.positions_start row.positions_end && nat_le row.positions_end n) rows
