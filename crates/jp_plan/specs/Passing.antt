-- The lines that pass what an index has of them.
use Rattle.std.specs.Prelude.{ℕ, ◌≤◌, List, length, Bool, true, false, Option}
use Rattle.jp_model.specs.Json.Status.{LineStatus, parsed}
use Rattle.jp_model.specs.Plans as plans
use Rattle.jp_model.specs.Plans.{seek_passes, guard_passes}
use Rattle.jp_model.specs.Steps.{Step}
use Rattle.jp_store.specs.Collections.{Collection}
use Rattle.jp_lines.specs.declared.Status.{Status}
use Rattle.jp_lines.specs.declared.Status.TheVariants as told

-- a line with a tree in which the seek, if any, has a node
abbrev pub seek_status : Option (List Step) → LineStatus → Bool
seek_status seek (parsed t) = seek_passes seek t
seek_status seek _ = false

-- a line with a tree in which the guard, if any, holds
abbrev pub guard_status : Option plans.Guard → LineStatus → Bool
guard_status guard (parsed t) = guard_passes guard t
guard_status guard _ = false

-- what is told of a line is that it has a tree
abbrev pub is_told_tree : Status → Bool
is_told_tree told.Tree = true
is_told_tree status = false

-- the number of a line, from 1
pub record IsLineOf (c : Collection) (line : ℕ) : Type 0 where
  pub first : 1 ≤ line
  pub last : line ≤ length c.state.lines
