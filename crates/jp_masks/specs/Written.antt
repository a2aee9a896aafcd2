-- The positions of marks that were written.
use Rattle.std.specs.Prelude.{ℕ, List, take}
use Rattle.jp_masks.specs.declared.room.Positions.{Positions}

-- after them is room for others
abbrev pub written : Positions → List ℕ
written positions = take positions.filled positions.room.items
