use Rattle.std.proofs.Common.{ap, map, length, arith}
use Rattle.jp_masks.specs.Written.{written}
use Rattle.jp_masks.specs.Rows.{rows_within}
use Rattle.jp_masks.specs.Found.{found, line_of}
use Rattle.jp_masks.proofs.lines.Marks.clear.Goals as goal

pub invariant_of-self : goal.invariant_of-self
unfolding rows_within
invariant_of-self c = record { in_positions = ap (λ rows. rows_within rows (length (written c.clear-2.new.self))) c.clear.ensures.items; in_order = omega arith }

pub returns-clause-none : goal.returns-clause-none
unfolding found
returns-clause-none c = ap (map (line_of (written c.clear-2.new.self))) c.clear.ensures.items
