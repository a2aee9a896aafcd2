use Rattle.std.proofs.Common.{◌≡◌, ℕ, ◌+◌, ◌<◌, get_or, []}
use Rattle.jp_tape.specs.Names.{all_points}
use Rattle.jp_tape.proofs.builder.names.has_equal_neighbours.Given as goal

abbrev pub invariant-loop-later : goal.invariant-loop-later
invariant-loop-later l = (k : ℕ) → k + 1 < l.later → get_or (all_points l.bodies) k [] ≡ get_or (all_points l.bodies) (k + 1) [] → ⊥
