use Rattle.std.proofs.Common.{ap, map, length, arith}
use Rattle.jp_masks.specs.Written.{written}
use Rattle.jp_masks.specs.Rows.{rows_within}
use Rattle.jp_masks.specs.Found.{found, line_of}
use Rattle.jp_masks.proofs.lines.Marks.new.Goals as goal

pub invariant_of-result : goal.invariant_of-result
unfolding rows_within
invariant_of-result c = record { in_positions = ap (λ rows. rows_within rows (length (written c.new-2.result))) c.new.ensures.items; in_order = omega arith }

pub returns-clause-none : goal.returns-clause-none
unfolding found
returns-clause-none c = ap (map (line_of (written c.new-2.result))) c.new.ensures.items
